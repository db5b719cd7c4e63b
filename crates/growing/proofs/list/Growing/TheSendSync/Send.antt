use denote.RattleType.{RattleType}
use denote.Param.Send.{IsSend}
use base.Growing.{latest}
use Rattle.growing.specs.contracts.list.Growing.{the_row}

pub send : (E : RattleType) → IsSend (the_row E)
unfolding latest
send E = record { owned = λ d vs. ((λ vss. (tt, ((λ uss. (tt, tt)), tt))), tt); leaving = λ k f vs. tt }
