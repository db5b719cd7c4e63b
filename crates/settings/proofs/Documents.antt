-- Steps through the keys of a table and the items of a list.
use Rattle.std.proofs.Common.{◌≡◌, ◌∙◌, ◌+◌, ◌<◌, ℕ, refl, sym, ap, List, [], ◌∷◌}
use Rattle.std.proofs.Common.{◌++◌, length, drop, get_or, Option, Some, None, option_map, append_assoc, map, string_bytes, ◌&&◌}
use Rattle.std.specs.List.{list_all}
use Rattle.toml.specs.Data.{Data, Items, item}
use Rattle.toml.specs.View.{items_view, members_view, view}
use Rattle.toml.specs.declared.value.Value.{Value}
use Rattle.toml.proofs.Views.{Entry, items_view-drop}
use Rattle.units.specs.Keys.{Bytes}
use Rattle.settings.specs.Documents.{is_known, key_in, keys_in, knows}

-- the keys of a table, by its entries
pub knows_keys : (es : List Entry) → list_all (λ k. is_known (string_bytes k)) (map (λ e. e.0) es) ≡ knows (members_view es)
knows_keys [] = refl
knows_keys (e ∷ es) = ap (λ b. is_known (string_bytes e.0) && b) (knows_keys es)

-- the keys so far, and those of the rest
abbrev pub after : List Bytes → Option (List Bytes) → Option (List Bytes)
after done = option_map (λ rest. done ++ rest)

after_one : (done : List Bytes) (k : Bytes) (o : Option (List Bytes)) → after done (option_map (λ ks. k ∷ ks) o) ≡ after (done ++ k ∷ []) o
after_one done k None = refl
after_one done k (Some ks) = ap (λ x. Some x) (sym (append_assoc done (k ∷ []) ks))

key_first : (d : Data) (rest : Items) (k : Bytes) → key_in d ≡ Some k → keys_in (item d rest) ≡ option_map (λ ks. k ∷ ks) (keys_in rest)
key_first d rest k e = rw e refl

no_key : (d : Data) (rest : Items) → key_in d ≡ None → keys_in (item d rest) ≡ None
no_key d rest e = rw e refl

pub keys_more : (vs : List Value) (i : ℕ) (d : Value) (done : List Bytes) (k : Bytes) → i < length vs → key_in (view (get_or vs i d)) ≡ Some k
    → after (done ++ k ∷ []) (keys_in (items_view (drop (i + 1) vs))) ≡ after done (keys_in (items_view (drop i vs)))
keys_more vs i d done k lt e =
    sym (after_one done k (keys_in (items_view (drop (i + 1) vs))))
    ∙ ap (after done) (sym (key_first (view (get_or vs i d)) (items_view (drop (i + 1) vs)) k e) ∙ ap keys_in (sym (items_view-drop vs i d lt)))

pub keys_none : (vs : List Value) (i : ℕ) (d : Value) (done : List Bytes) → i < length vs → key_in (view (get_or vs i d)) ≡ None
    → after done (keys_in (items_view (drop i vs))) ≡ None
keys_none vs i d done lt e =
    ap (λ x. after done (keys_in x)) (items_view-drop vs i d lt)
    ∙ ap (after done) (no_key (view (get_or vs i d)) (items_view (drop (i + 1) vs)) e)
