use denote.RattleType.{RattleType}
use denote.Param.Send.{IsSend}
use base.Growing.{at_least}
use Rattle.growing.specs.contracts.list.Beginning.{the_row}

pub send : (E : RattleType) → IsSend (the_row E)
unfolding at_least
send E = record { owned = λ d vs. ((λ vss. (tt, ((λ uss. (tt, tt)), tt))), tt); leaving = λ k f vs. tt }
