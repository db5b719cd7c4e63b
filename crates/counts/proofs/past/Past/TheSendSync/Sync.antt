-- A past owns nothing, so threads may share it.
use denote.Param.Send.{IsSync, cell_keyless}
use denote.RattleType.{RattleType}
use denote.Memory.{part_of, raw_all}
use Rattle.counts.specs.contracts.past.Past.{the_row}

pub sync : (E : RattleType) → IsSync (the_row E)
unfolding part_of
sync E = record { shared = λ d b o κ. λ q vs. (cell_keyless q (raw_all (the_row E).mir) vs b o, ((λ vss. (tt, ((λ uss. (tt, tt)), tt))), tt)) }
