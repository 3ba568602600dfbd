-- One byte more is copied; and all of them are the source.
use Rattle.std.proofs.Common.{◌≡◌, ◌∙◌, [], arith, length, drop}
use native.Mathlib.Numerals.{add-one}
use native.Mathlib.Nat.{zero-add}
use mathlib.Core.List.{append-nil}
use lib.ListN.{length-set, drop_of_length-le}
use lib.Seq.{paste-suc, take-length}
use Rattle.morus.proofs.copy_all.Goals as goal

pub loop-i-preserved : goal.loop-i-preserved
loop-i-preserved c =
    let a = c.args in
    record {
      same_length = rw length-set c.loop-i.invariant.same_length;
      copied =
          rw (c.loop-i.invariant.copied, add-one)
          (simp zero-add at (paste-suc a.to.now 0 a.from.now c.loop-i.i 0 (omega arith) (omega arith)));
    }

pub returns : goal.returns
returns c =
    let a = c.args in
    let all : c.loop-i.i ≡ length a.from.now = omega arith in
    let none : drop (length a.from.now) a.to.now ≡ [] =
    drop_of_length-le a.to.now {i = length a.from.now} (omega arith) in
    c.loop-i.invariant.copied ∙ rw (all, take-length a.from.now, none, append-nil)
