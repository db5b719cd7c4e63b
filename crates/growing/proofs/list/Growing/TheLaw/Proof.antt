-- A `&` to a growing list holds a share of the right. Assumes `Logic`.
use mathlib.Core.List.{[], ◌∷◌, map}
use base.Fraction.{full_share}
use base.Growing.{latest}
use types.Kit.{‵, raw, ◌$◌, ◌∵◌, !, qed, updating, now, done}
use types.Logic.{lfts}
use types.Tokens.{bor_fracture}
use base.Fml.{Share, Fml, fbor}
use denote.RattleType.{RattleType}
use denote.Param.Laws.{Laws}
use denote.Param.Shared.{copy_shared}
use denote.SharingLaws.{one_shr_laws}
use denote.Struct.Laws.{field_copy}
use denote.Struct.Lending.{of_Lends}
use Rattle.std.specs.contracts.marker.PhantomData as marker
use Rattle.growing.specs.Owns.{logs, name_of}
use Rattle.growing.specs.contracts.list.Growing as C
use Rattle.growing.proofs.list.Growing.TheLaw.Statement.{statement}

pub shares : (E : RattleType) (L : Laws E) → statement E L
shares E L =
    of_Lends (C.struct E) (C.the_codes E.Denot E.coded (marker.the_row E).coded) (C.the_heap E) (C.the_lent E)
    (λ d p. one_shr_laws (λ q. latest logs q (name_of d.names d.second) (map E.coded.code d.entries)))
    (copy_shared (marker.the_field E) (field_copy (marker.the_type E) tt), tt)
    (λ M 𝓤 𝓛 d p κ ts inc sp. let Φ : Share → Fml = λ q. latest logs q (name_of d.names d.second) (map E.coded.code d.entries) in
    qed 𝓛 (‵ (fbor κ (Φ full_share)) ∷ raw (lfts 𝓛 ts) ∷ []) ∵ updating ! $ bor_fracture ! tt Φ full_share $ now ! $ done !)
