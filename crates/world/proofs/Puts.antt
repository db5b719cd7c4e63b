-- What is put out in the code is put out in the definitions.
use Rattle.std.specs.List.{list_any}
use Rattle.std.proofs.Common.{◌≡◌, ◌||◌, ℕ, Bool, true, false, cond, List, [], ◌∷◌, ◌++◌, Option, Some, None, Result, Ok, Err, OnOk, refl, sym, ap}
use Rattle.std.proofs.Common.{◌∙◌, flat_map, option_to_list, option_map}
use Rattle.std.proofs.lemmas.Grind.{flat_map-append}
use Rattle.units.specs.Lists.{when}
use Rattle.units.specs.Ids.{Id, same_id}
use Rattle.units.proofs.Folds.{any_append}
use Rattle.units.proofs.IdLaws.{same_id_comm}
use Rattle.units.specs.declared.line.Line.{Line}
use Rattle.message.specs.Ends.{End}
use Rattle.message.specs.declared.message.Envelope.{Envelope}
use Rattle.message.specs.declared.message.Message.{Message}
use Rattle.world.specs.World.{World, ack_of, acks_of, commit_told, put_out}
use Rattle.world.specs.Among.{is_among}
use Rattle.world.specs.Told.{ack_by, ack_in, told_in}
use Rattle.world.specs.Passed.{IsOutput}
use Rattle.world.specs.declared.output.RunOutput.{RunOutput}

pub on_ok : {T E : Type 0} {P Q : Type 0} (r : Result T E) → OnOk r P → (P → Q) → OnOk r Q
on_ok (Ok x) h f = f h
on_ok (Err e) h f = tt

-- what was told is told by a message
told_alike : (t : Id) (e : Envelope) → is_among (told_in e) t ≡ when (λ x. true) (commit_told t e)
told_alike t e = by_message e.message
  where
    by_test : (s : ℕ) (b : Bool) → (b || false) ≡ when (λ x. true) (cond b (Some s) None)
    by_test s true = refl
    by_test s false = refl

    by_none : (b : Bool) → false ≡ when {A = ℕ} (λ x. true) (cond b None None)
    by_none true = refl
    by_none false = refl

    by_value : (d : End) (o : Option ℕ) → is_among (option_to_list (option_map (λ s. d.txn) o)) t ≡ when (λ x. true) (cond (same_id d.txn t) o None)
    by_value d None = by_none (same_id d.txn t)
    by_value d (Some s) = ap (λ b. b || false) (same_id_comm t d.txn) ∙ by_test s (same_id d.txn t)

    by_message : (m : Message) → is_among (elim m as (λ x. List Id) [ Message.Done d ↦ option_to_list (option_map (λ s. d.txn) d.outcome) | _ ↦ [] ]) t
        ≡ when (λ x. true) (elim m as (λ x. Option ℕ) [ Message.Done d ↦ cond (same_id d.txn t) d.outcome None | _ ↦ None ])
    by_message (Message.Done d) = by_value d d.outcome
    by_message _ = refl

told_by_bag : (t : Id) (bag : List Envelope) → is_among (flat_map told_in bag) t ≡ list_any (λ e. when (λ x. true) (commit_told t e)) bag
told_by_bag t [] = refl
told_by_bag t (e ∷ es) = any_append (same_id t) (told_in e) (flat_map told_in es) ∙ (λ i. told_alike t e i || told_by_bag t es i)

-- ---- acknowledgements, from the ids whose commit the messages before told

module _ (w : World) (ids : List Id) (told : (t : Id) → is_among ids t ≡ is_among (flat_map told_in w.bag) t) where
  by_outcome : (t : Id) (o : Option ℕ) → ack_by ids w.event t o ≡ ack_of w t o
  by_outcome t None = refl
  by_outcome t (Some s) = ap (λ b. cond b [] (Line.Ack t s w.event ∷ [])) (told t ∙ told_by_bag t w.bag)

  abbrev acks_by : Message → List Line
  acks_by m = elim m [ Message.Done d ↦ ack_of w d.txn d.outcome | _ ↦ [] ]

  abbrev acks_with : Message → List Line
  acks_with m = elim m [ Message.Done d ↦ ack_by ids w.event d.txn d.outcome | _ ↦ [] ]

  by_message : (m : Message) → acks_with m ≡ acks_by m
  by_message (Message.Done d) = by_outcome d.txn d.outcome
  by_message _ = refl

  acks_same : (es : List Envelope) → flat_map (ack_in ids w.event) es ≡ flat_map (acks_of w) es
  acks_same [] = refl
  acks_same (e ∷ es) = (λ i. by_message e.message i ++ acks_same es i)

pub puts : (p : RunOutput) (w : World) (new : RunOutput) (out : List Envelope) → IsOutput p w → new.bag ≡ p.bag ++ out →
    ((t : Id) → is_among new.told.keys t ≡ (is_among p.told.keys t || is_among (flat_map told_in out) t))
    → new.lines.items ≡ p.lines.items ++ flat_map (ack_in p.told.keys p.event) out
    → new.event ≡ p.event → IsOutput new (put_out out w)
unfolding put_out
puts p w new out h bag told lines event = record {
  bag = bag ∙ ap (λ b. b ++ out) h.bag;
  told = λ t. told t ∙ ap (λ b. b || is_among (flat_map told_in out) t) (h.told t)
      ∙ sym (any_append (same_id t) (flat_map told_in w.bag) (flat_map told_in out)) ∙ ap (λ ids. is_among ids t) (sym (flat_map-append told_in w.bag out));
  lines = lines ∙ (λ i. h.lines i ++ flat_map (ack_in p.told.keys (h.event i)) out) ∙ ap (λ ls. w.lines ++ ls) (acks_same w p.told.keys h.told out);
  event = event ∙ h.event;
}
