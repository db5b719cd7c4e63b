-- `twins` makes two new names.
use Rattle.std.proofs.Common.{ℕ, false, true, List, [], ◌∷◌, ◌++◌, refl}
use mir.Syntax.{a_type}
use mir.Val.{Val, vstruct, vcons, vnil, of_list}
use mir.MapTy.{inst_fn}
use base.Logic.{SProp, emp}
use base.Fml.{Fml, ftrue, fsep, feq, flft}
use base.Fraction.{full_share}
use types.Kit.{‵, raw, ◌⊛◌, ◌$◌, ◌∵◌, !, qed, by, move, keep, split, fjoin, some, later, use0, await, pick, feq_i, fpack}
use types.Run.{no_more, and_then, returns, enter}
use types.ByLocal.{alloc_all, pass_all, free_all, look_at, get, sets}
use types.Part.{agg}
use contract.Monad.{fact_i}
use contract.Running.{tables}
use denote.RattleType.{RattleType, owns, Valss}
use denote.Signature.{types_at}
use denote.Steps.{nothing}
use denote.Param.{param, layouts}
use denote.Triple.Walked.{Stays, walk_of}
use Rattle.atomic_table.proofs.Walks.{proved}
use Rattle.logbook.proofs.Fields.{token, Token, token_made, ends}
use Rattle.growing.specs.Owns.{Twins}
use Rattle.growing.proofs.Steps.{begun, right}
use Rattle.growing.specs.contracts.list.Growing as Growing
use Rattle.growing.specs.contracts.list.Growing.twins.{ended, clauses}
use Rattle.growing.specs.contracts.list.Growing.twins.Key.{name as #self}
use Rattle.growing.proofs.list.Growing.twins.Statement.{statement}
use Rattle.growing.proofs.list.Growing.twins.Code as code

pub twins_spec : {M : Type 1} → statement M
twins_spec 𝓤 𝓛 𝓜 𝓡 wired E L =
    let H = 𝓛.H in let 𝓣 = tables 𝓤 H 𝓜 𝓡 𝓡.env in let E' : RattleType = param 0 E in let En = ended E in
    let inst = layouts (a_type ∷ []) (E, tt) in let fn = inst_fn inst code.function in let c = clauses E 𝓛 𝓜.mem 𝓡.returns in
    let Row : RattleType = Growing.the_row E' in let hs : Stays En.signature.params En.kept = tt in
    proved 𝓛 En hs c 𝓜 𝓡 tt (#self inst) fn (code.unfolded 𝓤 H 𝓜 𝓡 wired (E, tt)) (λ κs. tt) (λ κs. tt) (λ κs qs bounds a gh are.
    let y : (walk_of 𝓛 En hs c).Ghost = ((κs, qs, bounds, a, tt), gh) in let Post : Val → SProp 𝓤 = (walk_of 𝓛 En hs c).post y
    in let toks : Fml = fsep (flft κs.0 qs.0) ftrue in
    qed 𝓛 ((‵ toks ⊛ ‵ (owns (types_at En.signature.params κs) a y.0.4)) ∷ raw ((c κs a).requires gh) ∷ []) ∵ keep ! (0 ∷ []) $ split ! $ keep ! (0 ∷ []) $
    enter ! 𝓣.C 𝓣.Λ fn [] Post $ alloc_all ! (λ l. pass_all ! refl tt $
    use0 𝓛 (later (some (λ (name : ℕ). ‵ (right 𝓛 E'.coded name [] full_share)))) (begun 𝓛 E'.coded) $ await ! tt $ pick ! (λ first.
    use0 𝓛 (later (some (λ (name : ℕ). ‵ (right 𝓛 E'.coded name [] full_share)))) (begun 𝓛 E'.coded) $ await ! tt $ pick ! (λ second.
    sets ! (agg ! (no_more !)) refl (tt, tt) $ sets ! (agg ! (and_then ! (get ! refl) (no_more !))) refl (tt, (tt, tt)) $
    sets ! (agg ! (no_more !)) refl (tt, tt) $ sets ! (agg ! (and_then ! (get ! refl) (no_more !))) refl (tt, (tt, tt)) $
    sets ! (agg ! (and_then ! (get ! refl) (and_then ! (get ! refl) (no_more !)))) refl (tt, ((tt, tt), ((tt, tt), tt))) $
    use0 𝓛 (‵ ((Token E').own_val (record {}, tt) (token ∷ []))) (token_made E' 𝓛) $ move ! (0 ∷ 2 ∷ []) $ fjoin ! $
    use0 𝓛 (‵ ((Token E').own_val (record {}, tt) (token ∷ []))) (token_made E' 𝓛) $ move ! (0 ∷ 2 ∷ []) $ fjoin ! $
    nothing ! $ move ! (1 ∷ 0 ∷ []) $ fjoin ! $ move ! (1 ∷ 0 ∷ []) $ fjoin ! $
    let v : Val = vstruct (vcons token (vcons token vnil)) in let Rs : List RattleType = Row ∷ Row ∷ [] in let names : Twins = (first, second) in
    let one : Row.Denot = record { marker = record {}; names = names; second = false; entries = [] }
    in let two : Row.Denot = record { marker = record {}; names = names; second = true; entries = [] } in
    feq_i ! (List Val) (v ∷ []) (v ∷ []) refl $ fjoin ! $ fpack ! (Valss Rs)
    (λ vss. fsep (feq (List Val) (v ∷ []) (vstruct (of_list (vss.0 ++ (vss.1.0 ++ []))) ∷ [])) (owns Rs (one, (two, tt)) vss))
    (token ∷ [], (token ∷ [], tt)) $
    nothing ! $
    returns ! (look_at ! 0 refl) $ free_all ! refl $ keep ! (2 ∷ 0 ∷ 1 ∷ []) $ by !
    (ends 𝓛 En hs c y (v) (one, two) tt tt (fact_i 𝓤 _ (emp 𝓤) (refl, refl, refl, refl, refl)))))))
