-- Calls in a row, by induction: the record is in its data, or in its message, with the bytes joined so far.
use Prim.Native.Nat.{ℕ, ◌+◌, ◌<◌}
use mathlib.Core.Path.{◌≡◌, refl, ap, ap₂, sym, ◌∙◌}
use mathlib.Core.List.{List, ◌∷◌, ◌++◌, flatten}
use native.Mathlib.Omega.{arith}
use lib.ListN.{length, replicate, length-append}
use Rattle.answers.specs.Sizes.{limit}
use Rattle.parts.specs.declared.intake.Intake.{Intake}
use Rattle.parts.specs.declared.work.Work.{Work}
use Rattle.parts.specs.Intake.{after, covering, checking}
use Rattle.parts.specs.Cuts.{DataCalls, SealCalls, CheckCalls}
use Rattle.parts.proofs.Bytewise.{after_append, covering_append, checking_append, count_after, count_checking}
use Rattle.parts.proofs.Ready.{in_data, Ready, from_text}
use Rattle.parts.proofs.OneCall.{data_call, seal_call, check_call}

pub record DataDone (r : Intake) (ds : List (List ℕ)) (ns : List ℕ) (w : Work) : Type 0 where
  pub numbers : ns ≡ replicate (length ds) 0
  pub record_is : w ≡ in_data (after r (flatten ds))

pub datas : {w w' : Work} {ds : List (List ℕ)} {ns : List ℕ} → DataCalls w ds ns w' → (r : Intake) → w ≡ in_data r
    → r.count + length (flatten ds) < limit → DataDone r ds ns w'
unfolding after flatten
datas DataCalls.none r e h = record { numbers = refl; record_is = e }
datas (DataCalls.more {d = d} {ds = ds} p q) r e h =
    let l : length (d ++ flatten ds) ≡ length d + length (flatten ds) = length-append d (flatten ds) in
    let c = data_call (rw e at p) (omega arith) in
    let v = datas q (after r d) c.1 (rw (count_after r d) (omega arith)) in
    record {
      numbers = ap₂ (λ (x : ℕ) (l : List ℕ). x ∷ l) c.0 v.numbers;
      record_is = v.record_is ∙ ap in_data (sym (after_append (flatten ds) r d));
    }

pub record SealDone (r : Intake) (a : ℕ) (ms : List (List ℕ)) (ns : List ℕ) (ss : List (List ℕ)) (w : Work) : Type 0 where
  pub numbers : ns ≡ replicate (length ms) 0
  pub bytes : flatten ss ≡ covering r (flatten ms)
  pub ready : Ready w (after r (flatten ms)) a

pub seals : {w w' : Work} {ms ss : List (List ℕ)} {ns : List ℕ} {a : ℕ} → SealCalls w ms ns ss w' → (r : Intake)
    → Ready w r a → a < limit → r.count + length (flatten ms) < limit → SealDone r a ms ns ss w'
unfolding after covering flatten
seals SealCalls.none r v ha h = record { numbers = refl; bytes = refl; ready = v }
seals (SealCalls.more {m = m} {ms = ms} p q) r v ha h =
    let l : length (m ++ flatten ms) ≡ length m + length (flatten ms) = length-append m (flatten ms) in
    let c = seal_call v ha p (omega arith) in
    let x = seals q (after r m) (from_text c.1) ha (rw (count_after r m) (omega arith)) in
    record {
      numbers = ap₂ (λ (x : ℕ) (l : List ℕ). x ∷ l) c.0 x.numbers;
      bytes = ap₂ (λ (y z : List ℕ). y ++ z) c.2 x.bytes ∙ sym (covering_append (flatten ms) r m);
      ready = rw (after_append (flatten ms) r m) x.ready;
    }

pub record CheckDone (r : Intake) (a : ℕ) (cs : List (List ℕ)) (ns : List ℕ) (w : Work) : Type 0 where
  pub numbers : ns ≡ replicate (length cs) 0
  pub ready : Ready w (checking r (flatten cs)) a

pub checks : {w w' : Work} {cs : List (List ℕ)} {ns : List ℕ} {a : ℕ} → CheckCalls w cs ns w' → (r : Intake)
    → Ready w r a
    → a < limit → r.count + length (flatten cs) < limit → CheckDone r a cs ns w'
unfolding checking flatten
checks CheckCalls.none r v ha h = record { numbers = refl; ready = v }
checks (CheckCalls.more {c = c} {cs = cs} p q) r v ha h =
    let l : length (c ++ flatten cs) ≡ length c + length (flatten cs) = length-append c (flatten cs) in
    let k = check_call v ha p (omega arith) in
    let x = checks q (checking r c) (from_text k.1) ha (rw (count_checking r c) (omega arith)) in
    record {
      numbers = ap₂ (λ (x : ℕ) (l : List ℕ). x ∷ l) k.0 x.numbers;
      ready = rw (checking_append (flatten cs) r c) x.ready;
    }
