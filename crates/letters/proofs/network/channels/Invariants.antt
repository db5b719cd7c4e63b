use Rattle.std.proofs.Common.{◌≡◌, length}
use Rattle.letters.proofs.network.channels.Given as goal

abbrev pub invariant-loop-made : goal.invariant-loop-made
invariant-loop-made g l = length l.receivers.items ≡ l._made
