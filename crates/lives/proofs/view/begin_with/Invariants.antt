use Rattle.std.proofs.Common.{◌≡◌, take}
use Rattle.lives.proofs.view.begin_with.Given as goal

abbrev pub invariant-loop-place : goal.invariant-loop-place
invariant-loop-place l = take l.place l.installs ≡ take l.place l.known
