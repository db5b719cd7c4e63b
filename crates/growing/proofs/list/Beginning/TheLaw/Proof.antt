-- A `&` to a beginning holds what it knows, which can be had twice. Assumes `Logic`.
use mathlib.Core.List.{map}
use base.Before.{before}
use base.Logic.{snd∗}
use types.Growing.{at_least_dup}
use types.Logic.{sem}
use denote.RattleType.{RattleType}
use denote.Param.Laws.{Laws}
use denote.Param.Shared.{copy_shared}
use denote.Struct.Laws.{field_copy}
use denote.Struct.Lending.{of_Lends}
use Rattle.std.specs.contracts.marker.PhantomData as marker
use Rattle.logbook.proofs.Fields.{lends_twice}
use Rattle.growing.specs.Owns.{logs, name_of, beginning_owns}
use Rattle.growing.specs.contracts.list.Beginning as C
use Rattle.growing.proofs.list.Beginning.TheLaw.Statement.{statement}

pub shares : (E : RattleType) (L : Laws E) → statement E L
shares E L =
    of_Lends (C.struct E) (C.the_codes E.Denot E.coded (marker.the_row E).coded) (C.the_heap E) (C.the_lent E)
    (λ d p. let P = beginning_owns E.coded.code (name_of d.names d.second) d.entries in record {
      contraction = λ M 𝓤 𝓛 κ. at_least_dup logs 𝓛 (name_of d.names d.second) (map E.coded.code d.entries);
      mono = λ M 𝓤 𝓛 κ' κ. snd∗ 𝓤 (sem 𝓛 (before κ' κ)) (sem 𝓛 P);
    })
    (copy_shared (marker.the_field E) (field_copy (marker.the_type E) tt), tt)
    (λ M 𝓤 𝓛 d p. lends_twice 𝓛 (beginning_owns E.coded.code (name_of d.names d.second) d.entries)
    (at_least_dup logs 𝓛 (name_of d.names d.second) (map E.coded.code d.entries)) (C.the_row E).lives)
