-- The first `i` bytes have been copied, and behind them nothing.
use Rattle.std.proofs.Common.{◌≡◌, ◌++◌, length, take, drop}
use Rattle.morus.proofs.copy_all.Given as goal

abbrev pub invariant-loop-i : goal.invariant-loop-i
invariant-loop-i l = record {
  same_length : length l.to ≡ length l.initial.to;
  copied : l.to ≡ take l.i l.from ++ drop l.i l.initial.to;
}
