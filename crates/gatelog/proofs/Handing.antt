-- What is at the front of what was read ahead is at the front of the file's rest.
use Rattle.std.proofs.Common.{◌≡◌, ℕ, ◌+◌, List, ◌++◌, length, drop, replicate, ap, subst, ◌∙◌}
use Rattle.std.proofs.lemmas.List.{length-replicate, drop-drop}
use Rattle.record.specs.declared.record.Record.{Record}
use Rattle.frames.specs.Ahead.{Ahead, IsAhead, read_to}
use Rattle.frames.specs.Front.{IsAtFront, IsFront}
use Rattle.frames.specs.Entries.{entries_at, with_entry}
use Rattle.frames.specs.declared.front.Front.{Front}
use Rattle.frames.specs.declared.front.Front.TheVariants.{Whole}
use Rattle.frames.proofs.Ahead.{ahead_there}

-- it is told of what was read ahead, by what the two calls gave
pub told : (a : Ahead) (bytes : List ℕ) (left : ℕ) (front found : Front) → bytes ≡ a.bytes → left ≡ a.left → found ≡ front → IsAtFront bytes left found
    → IsAtFront a.bytes a.left front
told a bytes left front found b l f h =
    subst (λ x. IsAtFront a.bytes a.left x) f (subst (λ n. IsAtFront a.bytes n found) l (subst (λ x. IsAtFront x left found) b h))

-- whatever follows
pub in_any : (a : Ahead) (front : Front) → IsAtFront a.bytes a.left front → IsFront (a.bytes ++ replicate a.left 0) (length a.bytes) a.left front
in_any a front h = h (replicate a.left 0) (length-replicate a.left 0)

-- in the file
pub in_file : (image : List ℕ) (a : Ahead) (front : Front) → IsAhead image a → IsAtFront a.bytes a.left front
    → IsFront (drop a.at image) (length a.bytes) a.left front
in_file image a front ahead h =
    subst (λ l. IsFront l (length a.bytes) a.left front) ahead.bytes (h (drop (read_to a) image) (ahead_there image a ahead))

-- the entry, and then what follows it
pub entry_then : (image : List ℕ) (a : Ahead) (item : Record) (size : ℕ) → IsAhead image a → IsAtFront a.bytes a.left (Whole item size)
    → entries_at a.at 0 (drop a.at image) ≡ with_entry (record { offset = a.at; item = item }) (entries_at (a.at + size) 0 (drop (a.at + size) image))
entry_then image a item size ahead h =
    (in_file image a (Whole item size) ahead h).2 a.at
    ∙ ap (λ l. with_entry (record { offset = a.at; item = item }) (entries_at (a.at + size) 0 l)) (drop-drop size a.at image)
