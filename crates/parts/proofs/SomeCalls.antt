-- There are calls in a row of any parts: each promise is met by what it says.
use Prim.Native.Nat.{ℕ}
use mathlib.Core.Path.{refl}
use mathlib.Core.List.{List, [], ◌∷◌}
use lib.ListN.{length}
use Rattle.answers.specs.Rows.{first_failing}
use Rattle.parts.specs.declared.work.Work.{Work}
use Rattle.parts.specs.Intake.{after, covering, checking}
use Rattle.parts.specs.Parts.{begun, with, in_message, data_rows, text_rows, leaves}
use Rattle.parts.specs.Cuts.{DataCalls, SealCalls, CheckCalls, SealRun, CheckRun}

record SomeData (w : Work) (ds : List (List ℕ)) : Type 0 where
  numbers : List ℕ
  end : Work
  calls : DataCalls w ds numbers end

some_data : (w : Work) (ds : List (List ℕ)) → SomeData w ds
some_data w [] = record { numbers = []; end = w; calls = DataCalls.none }
some_data w (d ∷ ds) =
    let k : ℕ = first_failing (data_rows w (length d)) in
    let x = some_data (leaves k (with w (after w.intake d)) w) ds in
    record {
      numbers = k ∷ x.numbers;
      end = x.end;
      calls = DataCalls.more (record { answer = refl; after = refl }) x.calls;
    }

record SomeSeals (w : Work) (ms : List (List ℕ)) : Type 0 where
  numbers : List ℕ
  sealed : List (List ℕ)
  end : Work
  calls : SealCalls w ms numbers sealed end

some_seals : (w : Work) (ms : List (List ℕ)) → SomeSeals w ms
some_seals w [] = record { numbers = []; sealed = []; end = w; calls = SealCalls.none }
some_seals w (m ∷ ms) =
    let k : ℕ = first_failing (text_rows w (length m)) in
    let x = some_seals (leaves k (with (in_message w) (after (in_message w).intake m)) w) ms in
    record {
      numbers = k ∷ x.numbers;
      sealed = leaves k (covering (in_message w).intake m) m ∷ x.sealed;
      end = x.end;
      calls = SealCalls.more (record { answer = refl; after = refl; part = refl }) x.calls;
    }

record SomeChecks (w : Work) (cs : List (List ℕ)) : Type 0 where
  numbers : List ℕ
  end : Work
  calls : CheckCalls w cs numbers end

some_checks : (w : Work) (cs : List (List ℕ)) → SomeChecks w cs
some_checks w [] = record { numbers = []; end = w; calls = CheckCalls.none }
some_checks w (c ∷ cs) =
    let k : ℕ = first_failing (text_rows w (length c)) in
    let x = some_checks (leaves k (with (in_message w) (checking (in_message w).intake c)) w) cs in
    record {
      numbers = k ∷ x.numbers;
      end = x.end;
      calls = CheckCalls.more (record { answer = refl; after = refl }) x.calls;
    }

pub can_seal : (key nonce : List ℕ) (ds ms : List (List ℕ)) → SealRun key nonce ds ms
can_seal key nonce ds ms =
    let x = some_data (begun nonce key) ds in
    let y = some_seals x.end ms in
    record {
      after_data = x.end;
      after_message = y.end;
      after_tag = _;
      data_numbers = x.numbers;
      text_numbers = y.numbers;
      tag_number = _;
      sealed = y.sealed;
      tag = _;
      data_calls = x.calls;
      seal_calls = y.calls;
      tag_call = record { answer = refl; tag = refl; after = refl };
    }

pub can_check : (key nonce : List ℕ) (ds cs : List (List ℕ)) (t : List ℕ) → CheckRun key nonce ds cs t
can_check key nonce ds cs t =
    let x = some_data (begun nonce key) ds in
    let y = some_checks x.end cs in
    record {
      after_data = x.end;
      after_message = y.end;
      after_tag = _;
      data_numbers = x.numbers;
      text_numbers = y.numbers;
      number = _;
      data_calls = x.calls;
      check_calls = y.calls;
      tag_call = record { answer = refl; after = refl };
    }
