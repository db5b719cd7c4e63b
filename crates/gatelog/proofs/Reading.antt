-- Entries that are read behind others, and a file without the header.
use Rattle.std.proofs.Common.{◌≡◌, ◌≢◌, inl, inr, ℕ, List, [], ◌∷◌, ◌++◌, take, Ok, Err, refl, sym, ap, append_assoc}
use Rattle.std.specs.Prelude.{bytes_eq}
use Rattle.std.proofs.lemmas.Bool.{cases_Bool}
use Rattle.std.proofs.lemmas.Slice.Eq.{bytes_eq-Decides}
use Rattle.units.specs.declared.fault.Fault.TheVariants.{NotALog}
use Rattle.frames.specs.Placed.{Placed}
use Rattle.gatelog.specs.Frames.{header}
use Rattle.frames.specs.Entries.{with_entry}
use Rattle.gatelog.specs.Log.{scan}
use Rattle.frames.proofs.Scan.{Found, with_entries}

pub one_more : (es : List Placed) (e : Placed) (found : Found) → with_entries es (with_entry e found) ≡ with_entries (es ++ e ∷ []) found
one_more es e (Ok found) = ap (λ (l : List Placed). Ok (l, found.1)) (sym (append_assoc es (e ∷ []) found.0))
one_more es e (Err fault) = refl

-- a file without the header
pub no_header : (image : List ℕ) → take 8 image ≢ header → scan image ≡ Err NotALog
unfolding scan
no_header image other = elim (cases_Bool (bytes_eq (take 8 image) header)) [
  | inl same ↦ absurd (other ((bytes_eq-Decides (take 8 image) header).0 same))
  | inr none ↦ rw none refl
]
