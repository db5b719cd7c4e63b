-- Pairs and pages that were told, one after the other.
use Rattle.std.proofs.Common.{◌≡◌, ◌∙◌, refl, sym, subst, ap, length, append_assoc, take, get_or, ℕ, ◌+◌, ◌<◌, List, [], ◌∷◌, ◌++◌, map, Option, Some}
use Rattle.std.proofs.lemmas.Grind.{flat_map-append}
use Rattle.std.proofs.lemmas.List.{append-nil, length-append, map-append}
use Rattle.std.specs.Io.KnownBytes.{Appends}
use Rattle.std.proofs.KnownBytes.{Appends-trans}
use Rattle.units.specs.Keys.{Bytes, shard_of}
use Rattle.board.specs.Views.{Viewing}
use Rattle.store.specs.Views.{IsShown, LookedAt}
use Rattle.pairs.specs.Rows.{line_of, row_of}
use Rattle.pairs.specs.declared.pair.Pair.{Pair}
use Rattle.moving.proofs.Lists.{next}
use Rattle.moving.specs.Exports.{ArePages, AreTold, IsPageFrom, Page, head, pairs_on, text}
use Rattle.moving.specs.declared.form.Form.{Form}
use Rattle.moving.specs.declared.form.Form.TheVariants.{Lines, Rows}

-- one more pair
pub told_next : (splits : List Bytes) (at : ℕ) (before middle after : List Viewing) (pairs : List Pair) (pair : Pair) → AreTold splits at before pairs middle
    → LookedAt middle after (shard_of splits pair.key) (λ viewer later. IsShown viewer later pair.key at (Some pair.value))
    → AreTold splits at before (pairs ++ pair ∷ []) after
told_next splits at before middle after [] pair are looked = (
  after,
  subst (λ (vs : List Viewing). LookedAt vs after (shard_of splits pair.key) (λ viewer later. IsShown viewer later pair.key at (Some pair.value))) are looked,
  refl,
)
told_next splits at before middle after (first ∷ pairs) pair are looked =
    (are.0, are.1, told_next splits at are.0 middle after pairs pair are.2 looked)

-- one more page
pub paged_next : (splits : List Bytes) (at : ℕ) (before middle after : List Viewing) (first : Option Bytes) (pages : List Page) (key : Bytes) (page : Page)
    → ArePages splits at before first pages (Some key) middle → IsPageFrom splits at middle key page after
    → ArePages splits at before first (pages ++ page ∷ []) page.next after
paged_next splits at before middle after first [] key page are is =
    (key, sym are.0, (after, subst (λ (vs : List Viewing). IsPageFrom splits at vs key page after) are.1 is, (refl, refl)))
paged_next splits at before middle after first (one ∷ pages) key page are is =
    (are.0, are.1, (are.2.0, are.2.1, paged_next splits at are.2.0 middle after one.next pages key page are.2.2 is))

-- the text of some pairs and of more
pub text_of_both : (form : Form) (pairs more : List Pair) → text form (pairs ++ more) ≡ text form pairs ++ text form more
text_of_both Lines pairs more = flat_map-append line_of pairs more
text_of_both Rows pairs more = flat_map-append row_of pairs more

-- the same of a view that is known to be of these splits and this time
pub told_on : (splits its : List Bytes) (at time : ℕ) (before middle after : List Viewing) (pairs more : List Pair) (key value : Bytes) (found : Option Bytes)
    → its ≡ splits → time ≡ at → found ≡ Some value → more ≡ pairs ++ record { key = key; value = value } ∷ []
    → AreTold splits at before pairs middle → LookedAt middle after (shard_of its key) (λ viewer later. IsShown viewer later key time found)
    → AreTold splits at before more after
told_on splits its at time before middle after pairs more key value found same present is grown are looked =
    subst (λ (ps : List Pair). AreTold splits at before ps after) (sym grown)
    (told_next splits at before middle after pairs (record { key = key; value = value }) are
    (subst (λ (o : Option Bytes). LookedAt middle after (shard_of splits key) (λ viewer later. IsShown viewer later key at o)) is
    (subst (λ (t : ℕ). LookedAt middle after (shard_of splits key) (λ viewer later. IsShown viewer later key t found)) present
    (subst (λ (s : List Bytes). LookedAt middle after (shard_of s key) (λ viewer later. IsShown viewer later key time found)) same looked))))

-- the keys of the pairs are those that were read
pub keyed_on : (all : List Bytes) (i : ℕ) (pairs more : List Pair) (key value : Bytes) → i < length all → key ≡ get_or all i key
    → more ≡ pairs ++ record { key = key; value = value } ∷ [] → map (λ (pair : Pair). pair.key) pairs ≡ take i all
    → map (λ (pair : Pair). pair.key) more ≡ take (i + 1) all
keyed_on all i pairs more key value here is grown so =
    ap (map (λ (pair : Pair). pair.key)) grown ∙ map-append (λ (pair : Pair). pair.key) pairs (record { key = key; value = value } ∷ [])
    ∙ ap (λ (ks : List Bytes). ks ++ key ∷ []) so ∙ sym (next all i key here is)

pub paged_on : (splits its : List Bytes) (at time : ℕ) (before middle after : List Viewing) (first : Option Bytes) (pages : List Page) (next : Option Bytes)
    (key : Bytes) (page : Page) → its ≡ splits → time ≡ at → next ≡ Some key → ArePages splits at before first pages next middle
    → IsPageFrom its time middle key page after → ArePages splits at before first (pages ++ page ∷ []) page.next after
paged_on splits its at time before middle after first pages next key page same present is are from =
    paged_next splits at before middle after first pages key page (subst (λ (n : Option Bytes). ArePages splits at before first pages n middle) is are)
    (subst (λ (t : ℕ). IsPageFrom splits t middle key page after) present (subst (λ (s : List Bytes). IsPageFrom s time middle key page after) same from))

-- all pairs of some pages and of one more
pub pairs_more : (pages : List Page) (page : Page) → pairs_on (pages ++ page ∷ []) ≡ pairs_on pages ++ page.pairs
pairs_more pages page =
    flat_map-append (λ (p : Page). p.pairs) pages (page ∷ []) ∙ ap (λ (rest : List Pair). pairs_on pages ++ rest) (append-nil page.pairs)

pub written_on : (form : Form) (pages : List Page) (page : Page)
    → (head form ++ text form (pairs_on pages)) ++ text form page.pairs ≡ head form ++ text form (pairs_on (pages ++ page ∷ []))
written_on form pages page =
    append_assoc (head form) (text form (pairs_on pages)) (text form page.pairs)
    ∙ ap (λ (t : List ℕ). head form ++ t) (sym (text_of_both form (pairs_on pages) page.pairs) ∙ ap (text form) (sym (pairs_more pages page)))

-- a page more is written
pub wrote_on : (old middle new : Option (List ℕ)) (form : Form) (pages : List Page) (page : Page) (bytes : List ℕ) → bytes ≡ text form page.pairs
    → Appends old middle (head form ++ text form (pairs_on pages)) → Appends middle new bytes
    → Appends old new (head form ++ text form (pairs_on (pages ++ page ∷ [])))
wrote_on old middle new form pages page bytes is before more =
    subst (Appends old new) (written_on form pages page)
    (subst (λ (bs : List ℕ). Appends old new ((head form ++ text form (pairs_on pages)) ++ bs)) is (Appends-trans old middle new _ bytes before more))

pub counted_on : (pages : List Page) (page : Page) → length (pairs_on (pages ++ page ∷ [])) ≡ length (pairs_on pages) + length page.pairs
counted_on pages page = ap (λ (ps : List Pair). length ps) (pairs_more pages page) ∙ length-append (pairs_on pages) page.pairs
