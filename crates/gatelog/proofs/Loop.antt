-- Where the loop of a scan stands.
use Rattle.std.specs.Prelude.{IfSome, IfNone, is_some}
use Rattle.std.proofs.Common.{refl, false, arith, ◌≡◌, ℕ, suc, ◌+◌, ◌<◌, List, [], ◌∷◌, ◌++◌, length, drop, map, Option, Some, None, Result, Ok, Err}
use Rattle.std.proofs.Common.{sym, ap, subst, ◌∙◌, append-nil}
use Rattle.std.proofs.lemmas.List.{map-append}
use Rattle.units.specs.declared.fault.Fault.{Fault}
use Rattle.record.specs.declared.record.Record.{Record}
use Rattle.spelling.specs.Grammar.{spelling}
use Rattle.frames.specs.Ahead.{Ahead, ToDo}
use Rattle.gatelog.specs.Frames.{next_gate}
use Rattle.gatelog.specs.Areas.{placed_from}
use Rattle.frames.specs.Placed.{Placed}
use Rattle.frames.specs.Entries.{entries_at, with_entries}
use Rattle.gatelog.proofs.Fresh.{placed-more}
use Rattle.frames.proofs.Scan.{Found, with_entries-nil}

-- what was handed over, and then what is ahead, is what there is in all; or all was handed over
abbrev pub IsHanded : List ℕ → Found → List Placed → Ahead → Option ℕ → Type 0
IsHanded image total taken ahead None = with_entries taken (entries_at ahead.at 0 (drop ahead.at image)) ≡ total
IsHanded image total taken ahead (Some gate) = total ≡ Ok (taken, gate)

-- the entries that were handed over stand one behind the other from an offset on
abbrev pub IsPlaced : ℕ → List Placed → Ahead → Option ℕ → Type 0
IsPlaced begins taken ahead None = placed_from begins (map (λ e. e.item) taken) ≡ (taken, ahead.at)
IsPlaced begins taken ahead (Some gate) = placed_from begins (map (λ e. e.item) taken) ≡ (taken, gate)

-- how far the loop may go on
abbrev pub to_go : Ahead → Option ℕ → ℕ
to_go ahead None = suc (ToDo ahead)
to_go ahead (Some gate) = 0

-- at the start
pub starts : (image : List ℕ) (taken : List Placed) (ahead : Ahead) → taken ≡ [] → IsHanded image (entries_at ahead.at 0 (drop ahead.at image)) taken ahead None
starts image taken ahead none =
    ap (λ (l : List Placed). with_entries l (entries_at ahead.at 0 (drop ahead.at image))) none
    ∙ with_entries-nil (entries_at ahead.at 0 (drop ahead.at image))

pub starts_there : (taken : List Placed) (ahead : Ahead) → taken ≡ [] → IsPlaced ahead.at taken ahead None
starts_there taken ahead none = subst (λ (l : List Placed). IsPlaced ahead.at l ahead None) (sym none) refl

-- at the closed gate
pub ends : (image : List ℕ) (total : Found) (taken taken' : List Placed) (ahead ahead' : Ahead) (gate : ℕ) → IsHanded image total taken ahead None
    → taken' ≡ taken → entries_at ahead.at 0 (drop ahead.at image) ≡ Ok ([], gate) → IsHanded image total taken' ahead' (Some gate)
ends image total taken taken' ahead ahead' gate so_far same closed =
    sym so_far ∙ ap (with_entries taken) closed ∙ ap (λ (l : List Placed). Ok (l, gate)) (append-nil taken ∙ sym same)

-- at damage
pub breaks : (image : List ℕ) (total : Found) (taken : List Placed) (ahead : Ahead) (fault : Fault) → IsHanded image total taken ahead None
    → entries_at ahead.at 0 (drop ahead.at image) ≡ Err fault → total ≡ Err fault
breaks image total taken ahead fault so_far broken = sym so_far ∙ ap (with_entries taken) broken

-- one entry more
pub placed_next : (begins : ℕ) (es : List Placed) (at : ℕ) (r : Record) (size : ℕ) (es' : List Placed) (at' : ℕ)
    → placed_from begins (map (λ e. e.item) es) ≡ (es, at) → es' ≡ es ++ (record { offset = at; item = r }) ∷ [] → at' ≡ at + size
    → size ≡ 5 + length (spelling r)
    → placed_from begins (map (λ e. e.item) es') ≡ (es', at')
placed_next begins es at r size es' at' so_far more further long =
    ap (λ (l : List Placed). placed_from begins (map (λ (e : Placed). e.item) l)) more
    ∙ ap (placed_from begins) (map-append (λ (e : Placed). e.item) es ((record { offset = at; item = r }) ∷ []))
    ∙ placed-more (map (λ (e : Placed). e.item) es) begins r
    ∙ ap (λ (p : List Placed × ℕ). (p.0 ++ (record { offset = p.1; item = r }) ∷ [], next_gate p.1 r)) so_far
    ∙ ap (λ (l : List Placed). (l, next_gate at r)) (sym more)
    ∙ ap (λ (n : ℕ). (es', n)) (gate (length (spelling r)) long)
  where
    gate : (count : ℕ) → size ≡ 5 + count → at + 5 + count ≡ at'
    gate count is = omega (arith, is, further)

-- nothing was found yet
pub none_yet : (o : Option ℕ) → is_some o ≡ false → o ≡ None
none_yet None e = refl
none_yet (Some gate) e = absurd cc

-- one turn more
module _ {K : Type 0} (image : List ℕ) (total : Found) (taken taken' : List Placed) (ahead ahead' : Ahead) where
  pub handed_next : (o : Option ℕ) → K → IsHanded image total taken ahead None
      → IfSome o (λ gate. (gate ≡ ahead.at) × (taken' ≡ taken) × (K → entries_at ahead.at 0 (drop ahead.at image) ≡ Ok ([], gate)))
      → IfNone o (K → (total : Result (List Placed × ℕ) Fault) → with_entries taken (entries_at ahead.at 0 (drop ahead.at image)) ≡ total
      → with_entries taken' (entries_at ahead'.at 0 (drop ahead'.at image)) ≡ total)
      → IsHanded image total taken' ahead' o
  handed_next None k so_far closed goes_on = goes_on k total so_far
  handed_next (Some gate) k so_far closed goes_on = ends image total taken taken' ahead ahead' gate so_far closed.1 (closed.2 k)

pub placed_on : (P : ℕ → Type 0) (begins : ℕ) (taken taken' : List Placed) (ahead ahead' : Ahead) (o : Option ℕ) → IsPlaced begins taken ahead None
    → IfSome o (λ gate. (gate ≡ ahead.at) × (taken' ≡ taken) × P gate)
    → IfNone o ((begins : ℕ) → placed_from begins (map (λ e. e.item) taken) ≡ (taken, ahead.at)
    → placed_from begins (map (λ e. e.item) taken') ≡ (taken', ahead'.at))
    → IsPlaced begins taken' ahead' o
placed_on P begins taken taken' ahead ahead' None so_far closed goes_on = goes_on begins so_far
placed_on P begins taken taken' ahead ahead' (Some gate) so_far closed goes_on =
    ap (λ (l : List Placed). placed_from begins (map (λ (e : Placed). e.item) l)) closed.1 ∙ so_far
    ∙ ap (λ (l : List Placed). (l, ahead.at)) (sym closed.1) ∙ ap (λ (n : ℕ). (taken', n)) (sym closed.0)

pub less_next : (ahead ahead' : Ahead) (o : Option ℕ) → IfNone o (ToDo ahead' < ToDo ahead) → to_go ahead' o < to_go ahead None
less_next ahead ahead' None lt = omega (arith, lt)
less_next ahead ahead' (Some gate) lt = omega arith
