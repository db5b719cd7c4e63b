use denote.RattleType.{RattleType}
use denote.Param.Send.{IsSync, sendable}
use denote.Struct.Struct.{Struct}
use denote.Struct.Owning.{shape}
use base.Growing.{latest}
use Rattle.growing.specs.contracts.list.Growing.{the_row, the_type}

pub sync : (E : RattleType) → IsSync (the_row E)
unfolding latest
sync E = let fields : IsSync (Struct (shape (the_type E))) = search sendable depth 20 in record { shared = λ d b o ν. (fields.shared (tt, tt) b o ν, λ _. tt) }
