-- The field of some bytes is read back.
use Rattle.std.proofs.Common.{◌≡◌, refl, sym, ap, ◌∙◌, true≢false, Bool, true, false, not, ◌&&◌, ◌==◌, ℕ, List, [], ◌∷◌, Option, Some, None, if◌then◌else◌}
use Rattle.std.specs.List.{list_all}
use Rattle.std.specs.Str.{IsUtf8, is_utf8}
use Rattle.std.proofs.lemmas.Str.{IsUtf8-from_is_utf8, is_utf8-from_IsUtf8}
use Rattle.units.specs.Keys.{Bytes}
use Rattle.requests.specs.Spelling.{spelled, spells, unspelled, with_byte}
use Rattle.requests.specs.declared.spelled.Passed.{Passed}
use Rattle.requests.specs.declared.spelled.Place.TheVariants.{Behind, Between}
use Rattle.requests.proofs.ReadBack.{is_read}
use Rattle.pairs.specs.Rows.{FieldsAreRead, is_plain, shows_itself}

both : (a b : Bool) → (a && b) ≡ true → (a ≡ true) × (b ≡ true)
both true b is = (refl, is)
both false b is = absurd (true≢false (sym is))

refuted : (a : Bool) → not a ≡ true → a ≡ false
refuted true is = absurd (true≢false (sym is))
refuted false is = refl

-- what the rest of a word spells from where a byte of it has led, which may begin an escape
after : List ℕ → Option Passed → Option Bytes
after rest o = elim o [ Some p ↦ with_byte p.byte (spells rest p.place) | None ↦ None ]

between : Bool → ℕ → Option Passed
between escapes b = if escapes then Some (record { place = Behind; byte = None }) else Some (record { place = Between; byte = Some b })

-- bytes without a backslash spell themselves
plain_read : (bytes : Bytes) → list_all shows_itself bytes ≡ true → spells bytes Between ≡ Some bytes
unfolding after between
plain_read [] all = refl
plain_read (b ∷ bytes) all =
    let each = both (shows_itself b) (list_all shows_itself bytes) all in
    let no_backslash = refuted (b == 92) (both (not (b == 0)) (not (b == 92)) each.0).1 in
    ap (λ escapes. after bytes (between escapes b)) no_backslash
    ∙ ap (λ (rest : Option Bytes). with_byte (Some b) rest) (plain_read bytes each.1)

pub fields_read : FieldsAreRead
fields_read bytes are = by_kind (is_plain bytes) refl
  where
    by_kind : (plain : Bool) → is_plain bytes ≡ plain → unspelled (if is_plain bytes then bytes else spelled bytes) ≡ Some bytes
    by_kind true is = ap (λ (b : Bool). unspelled (if b then bytes else spelled bytes)) is ∙ plain_read bytes (both _ _ is).1
    by_kind false is = ap (λ (b : Bool). unspelled (if b then bytes else spelled bytes)) is ∙ is_read bytes are

-- bytes that are no text do not stand as they are
pub no_text : (bytes : Bytes) → (IsUtf8 bytes → ⊥) → false ≡ is_plain bytes
no_text bytes none = by_test (is_utf8 bytes) refl
  where
    by_test : (b : Bool) → is_utf8 bytes ≡ b → false ≡ (is_utf8 bytes && list_all shows_itself bytes)
    by_test true is = absurd (none (IsUtf8-from_is_utf8 bytes is))
    by_test false is = sym (ap (λ (t : Bool). t && list_all shows_itself bytes) is)

-- a text stands as it is where its bytes show themselves
pub a_text : (bytes : Bytes) → IsUtf8 bytes → list_all shows_itself bytes ≡ is_plain bytes
a_text bytes is = sym (ap (λ (t : Bool). t && list_all shows_itself bytes) (is_utf8-from_IsUtf8 bytes is))
