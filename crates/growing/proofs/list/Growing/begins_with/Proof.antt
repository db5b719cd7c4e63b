-- `begins_with` looks at the right, which bounds what was seen.
use Rattle.std.proofs.Common.{◌≡◌, ℕ, Bool, List, [], ◌∷◌, refl}
use mir.Syntax.{a_type, named}
use mir.Val.{Val, vunit, vptr}
use mir.MapTy.{inst_fn}
use base.Logic.{SProp, emp}
use mathlib.Core.List.{IsPrefix}
use base.Fml.{Fml, ftrue, fsep, flft, fhide}
use types.Kit.{‵, raw, ◌⊛◌, ◌$◌, ◌∵◌, !, qed, by, move, keep, drop, split, fsplit, fjoin, given, later, use1, use3, await, learn, rewrite, feq_i}
use types.Run.{unit_lit, of_opd, returns, enter}
use types.ByLocal.{alloc_all, pass_all, free_all, look_at, sets}
use contract.Monad.{fact, fact_i}
use contract.Running.{tables}
use denote.Exit.{yes}
use denote.RattleType.{RattleType, owns}
use denote.Signature.{types_at, plain}
use denote.Builtin.{RefOf}
use denote.Ref.{shr_vals, shr_Tells}
use denote.Memory.{hidden_shr}
use denote.Opens.{unhide}
use denote.Steps.{nothing, heard}
use denote.Param.{param, layouts}
use denote.Struct.Lending.{lent_out}
use denote.Triple.Walked.{Stays, stay_dropped, walk_of, Goes-dropped}
use Rattle.std.specs.contracts.marker.PhantomData as marker
use Rattle.atomic_table.proofs.Walks.{proved}
use Rattle.logbook.proofs.Fields.{Token, ends}
use Rattle.growing.specs.Owns.{growing_shares, beginning_owns, name_of, Twins}
use Rattle.growing.proofs.Steps.{under}
use Rattle.growing.specs.contracts.list.Beginning as Beginning
use Rattle.growing.specs.contracts.list.Growing as Growing
use Rattle.growing.specs.contracts.list.Growing.begins_with.{ended, clauses}
use Rattle.growing.specs.contracts.list.Growing.begins_with.Key.{name as #self}
use Rattle.growing.proofs.list.Growing.begins_with.Statement.{statement}
use Rattle.growing.proofs.list.Growing.begins_with.Code as code

pub begins_with_spec : {M : Type 1} → statement M
begins_with_spec 𝓤 𝓛 𝓜 𝓡 wired E L =
    let H = 𝓛.H in let 𝓣 = tables 𝓤 H 𝓜 𝓡 𝓡.env in let E' : RattleType = param 0 E in let En = ended E in
    let inst = layouts (a_type ∷ []) (E, tt) in let fn = inst_fn inst code.function in let c = clauses E 𝓛 𝓜.mem 𝓡.returns in
    let Row : RattleType = Growing.the_row E' in let Row' : RattleType = Beginning.the_row E' in
    let self = RefOf (0 ∷ []) tt (plain (λ _. Row)) (λ _. tt) in let other = RefOf (1 ∷ []) tt (plain (λ _. Row')) (λ _. tt) in
    let hs : Stays En.signature.params En.kept = (stay_dropped self yes, (stay_dropped other yes, tt)) in
    proved 𝓛 En hs c 𝓜 𝓡 (Goes-dropped 𝓛 3 self yes (λ κs x f. refl), (Goes-dropped 𝓛 3 other yes (λ κs x f. refl), tt)) (#self inst) fn
    (code.unfolded 𝓤 H 𝓜 𝓡 wired (E, tt))
    (λ κs. (shr_vals, (shr_vals, tt))) (λ κs. (shr_Tells (named 0) κs.0 Row, (shr_Tells (named 1) κs.1.0 Row', tt))) (λ κs qs bounds a gh are.
    let me = a.0.now in let seen = a.1.0.now in let name : ℕ = name_of me.names me.second in
    let K : Fml = growing_shares E'.coded.code name me.entries κs.0 in let P : Fml = beginning_owns E'.coded.code
    (name_of seen.names seen.second) seen.entries in
    let Asked : Type 0 = (seen.names ≡ me.names) × (seen.second ≡ me.second) in
    let y : (walk_of 𝓛 En hs c).Ghost = (
      (
        κs,
        qs,
        bounds,
        a,
        (vptr a.0.ref_ptr.0 a.0.ref_ptr.1 ∷ [], (vptr a.1.0.ref_ptr.0 a.1.0.ref_ptr.1 ∷ [], tt)),
      ),
      gh,
    ) in let Post : Val → SProp 𝓤 =
    (walk_of 𝓛 En hs c).post y in
    let toks : Fml = fsep (flft κs.0 qs.0) (fsep (flft κs.1.0 qs.1.0) (fsep (flft κs.1.1.0 qs.1.1.0) ftrue)) in
    qed 𝓛 ((‵ toks ⊛ ‵ (owns (types_at En.signature.params κs) a y.0.4)) ∷ raw (fact 𝓤 _) ∷ raw (fact 𝓤 Asked) ∷ []) ∵ keep ! (2 ∷ 0 ∷ []) $
    heard ! Asked (λ asked. split ! $
    fsplit ! $ move ! (2 ∷ []) $ fsplit ! $ fsplit ! $ move ! (2 ∷ []) $ fsplit ! $ fsplit ! $ keep ! (4 ∷ 1 ∷ 5 ∷ 6 ∷ []) $
    enter ! 𝓣.C 𝓣.Λ fn (vptr a.0.ref_ptr.0 a.0.ref_ptr.1 ∷ vptr a.1.0.ref_ptr.0 a.1.0.ref_ptr.1 ∷ []) Post $ alloc_all !
    (λ l. pass_all ! refl ((tt, tt), ((tt, tt), tt)) $
    use1 𝓛 (‵ (hidden_shr (Token E') κs.0 (record {}, tt) a.0.ref_ptr.0 a.0.ref_ptr.1) ⊛ ‵ (fhide K))
    (lent_out 𝓛 (Growing.struct E') (Growing.the_codes E.Denot E'.coded (marker.the_row E').coded) (Growing.the_heap E')
    (Growing.the_lent E') κs.0 me a.0.ref_ptr.0 a.0.ref_ptr.1) $ split ! $ drop ! $ unhide ! $
    move ! (1 ∷ []) $
    use1 𝓛 (‵ (hidden_shr (Token E') κs.1.0 (record {}, tt) a.1.0.ref_ptr.0 a.1.0.ref_ptr.1) ⊛ ‵ (fhide P))
    (lent_out 𝓛 (Beginning.struct E') (Beginning.the_codes E.Denot E'.coded (marker.the_row E').coded) (Beginning.the_heap E')
    (Beginning.the_lent E') κs.1.0 seen a.1.0.ref_ptr.0 a.1.0.ref_ptr.1) $ split ! $ drop ! $ unhide ! $
    rewrite ! 0 (λ (z : Twins × Bool). ‵ (beginning_owns E'.coded.code (name_of z.0 z.1) seen.entries)) (λ i. (asked.0 i, asked.1 i)) refl $ move !
    (1 ∷ 2 ∷ 0 ∷ []) $
    use3 𝓛 (later (given (IsPrefix seen.entries me.entries) (‵ (flft κs.0 qs.0)))) (under 𝓛 E'.coded name me.entries seen.entries κs.0 qs.0) $
    await ! tt $ learn ! (λ pre.
    sets ! (of_opd ! (unit_lit !)) refl (tt, tt) $ feq_i ! (List Val) (vunit ∷ []) (vunit ∷ []) refl $
    move ! (1 ∷ 2 ∷ []) $ fjoin ! $ nothing ! $ nothing ! $ fjoin ! $ nothing ! $ fjoin ! $
    returns ! (look_at ! 0 refl) $ free_all ! refl $ keep ! (1 ∷ 0 ∷ 2 ∷ []) $
    by ! (ends 𝓛 En hs c y (vunit) (tt) (tt, (tt, tt)) (tt, (tt, tt)) (fact_i 𝓤 _ (emp 𝓤) pre))))))
