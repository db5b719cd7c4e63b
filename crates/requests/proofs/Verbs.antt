-- A word that is no verb asks for nothing.
use Rattle.std.proofs.Common.{◌≡◌, false, ℕ, List, Err, codes, refl, sym}
use Rattle.std.proofs.lemmas.Bool.{false_from_ne_true}
use Rattle.std.proofs.lemmas.Slice.Eq.{bytes_eq-Decides}
use Rattle.std.specs.Str.{bytes_eq}
use Rattle.units.specs.declared.fault.Fault.TheVariants.{BadRequest}
use Rattle.units.specs.declared.fault.Reason.TheVariants as reason
use Rattle.requests.specs.Requests.{Word, asked_by}

pub is_other : (name verb : Word) → (verb ≡ name → ⊥) → bytes_eq name verb ≡ false
is_other name verb apart = false_from_ne_true (bytes_eq name verb) (λ same. apart (sym ((bytes_eq-Decides name verb).0 same)))

pub no_verb : (verb : Word) (rest : List Word)
    → (verb ≡ codes "begin" → ⊥) → (verb ≡ codes "get" → ⊥) → (verb ≡ codes "put" → ⊥) → (verb ≡ codes "erase" → ⊥)
    → (verb ≡ codes "commit" → ⊥) → (verb ≡ codes "abort" → ⊥) → (verb ≡ codes "view" → ⊥) → (verb ≡ codes "end" → ⊥)
    → (verb ≡ codes "help" → ⊥) → (verb ≡ codes "quit" → ⊥)
    → (verb ≡ codes "keys" → ⊥) → (verb ≡ codes "outcome" → ⊥) → (verb ≡ codes "stats" → ⊥)
    → asked_by verb rest ≡ Err (BadRequest reason.Command)
no_verb verb rest a b c d e f g h i j k l m =
    rw (
      is_other (codes "begin") verb a,
      is_other (codes "get") verb b,
      is_other (codes "put") verb c,
      is_other (codes "erase") verb d,
      is_other (codes "commit") verb e,
      is_other (codes "abort") verb f,
      is_other (codes "view") verb g,
      is_other (codes "keys") verb k,
      is_other (codes "end") verb h,
      is_other (codes "outcome") verb l,
      is_other (codes "stats") verb m,
      is_other (codes "help") verb i,
      is_other (codes "quit") verb j,
    ) refl
