-- What is told of logs, one log at a time, and then of all of them.
use Rattle.std.proofs.Common.{◌≡◌, ◌∙◌, ◌++◌, ◌∷◌, ◌+◌, ◌<◌, [], ℕ, List, length, map, take, get_or, append-nil, append_assoc, ap, refl, Result, Ok}
use Rattle.std.proofs.Common.{ap₂, sym, codes, flat_map}
use Rattle.std.proofs.lemmas.Grind.{flat_map-append}
use Rattle.std.proofs.lemmas.List.{length-map, map-append, take_more}
use Rattle.units.specs.declared.fault.Fault.{Fault}
use Rattle.disk.specs.File.{File, surface}
use Rattle.system.proofs.Named.{next-named}
use Rattle.showing.specs.JsonTexts.{AreLogsJson, LogJson, commas, mark_after, several_json}
use Rattle.showing.specs.Stats.{stats_in}
use Rattle.showing.specs.StatsTexts.{AreNumbersOf, ToldLog, log_text, several_text, stats_text}
use Rattle.showing.specs.declared.stats.InDoubt.{InDoubt}
use Rattle.showing.specs.declared.stats.Numbers.{Numbers}
use Rattle.showing.proofs.JsonLines.{commas_more}

-- what a read of a disk gives of a log
abbrev pub Counted : Type 0
Counted = Result (Numbers × List InDoubt) Fault

module _ {D : Type 0} (keeps : Type 0) (file : D → File) (named : List ℕ → D → Type 0) where
  -- one log more, of a disk that was opened under its name
  pub numbers_more : {X : Type 0} (now : X → List ℕ) (logs : List X) (i : ℕ) (d : X) (told : List ToldLog) (one : ToldLog) (disk : D) → i < length logs
      → AreNumbersOf keeps file named (map now (take i logs)) told → one.name ≡ now (get_or logs i d) → named (now (get_or logs i d)) disk
      → (keeps → stats_in (surface (file disk)).seen ≡ Ok (one.numbers, one.in_doubt))
      → AreNumbersOf keeps file named (map now (take (i + 1) logs)) (told ++ one ∷ [])
  numbers_more now logs i d told one disk small so_far its_name is counted = (
    map-append (λ (l : ToldLog). l.name) told (one ∷ []) ∙ ap₂ (λ (a : List (List ℕ)) (n : List ℕ). a ++ n ∷ []) so_far.0 its_name
        ∙ sym (ap (map now) (take_more logs i d small) ∙ map-append now (take i logs) (get_or logs i d ∷ [])),
    so_far.1 ++ disk ∷ [],
    next-named named now logs i d so_far.1 (so_far.1 ++ disk ∷ []) disk small refl so_far.2 is,
    λ k. map-append (λ (x : D). stats_in (surface (file x)).seen) so_far.1 (disk ∷ [])
        ∙ ap₂ (λ (a : List Counted) (r : Counted). a ++ r ∷ []) (so_far.3 k) (counted k)
        ∙ sym (map-append (λ (l : ToldLog). Ok (l.numbers, l.in_doubt)) told (one ∷ [])),
  )

pub numbers_next : (told : List ToldLog) (one : ToldLog) (ns ns' : List Numbers) → map (λ (l : ToldLog). l.numbers) told ≡ ns
    → ns' ≡ ns ++ one.numbers ∷ [] → map (λ (l : ToldLog). l.numbers) (told ++ one ∷ []) ≡ ns'
numbers_next told one ns ns' numbers its_numbers =
    map-append (λ (l : ToldLog). l.numbers) told (one ∷ []) ∙ ap (λ (a : List Numbers). a ++ one.numbers ∷ []) numbers ∙ sym its_numbers

pub text_next : (told : List ToldLog) (one : ToldLog) (t t' : List ℕ) → t ≡ flat_map log_text told → t' ≡ t ++ log_text one
    → t' ≡ flat_map log_text (told ++ one ∷ [])
text_next told one t t' text its_text =
    its_text ∙ ap (λ b. b ++ log_text one) text
    ∙ sym (flat_map-append log_text told (one ∷ []) ∙ ap (λ b. flat_map log_text told ++ b) (append-nil (log_text one)))

pub with_several : (told : List ToldLog) (ns : List Numbers) (t t' : List ℕ) → map (λ (l : ToldLog). l.numbers) told ≡ ns → t ≡ flat_map log_text told
    → t' ≡ t ++ several_text ns → t' ≡ stats_text told
with_several told ns t t' numbers text more = more ∙ ap₂ (λ (a : List ℕ) (b : List Numbers). a ++ several_text b) text (sym numbers)

-- the head, the numbers and what is in doubt, one behind the other
pub log_told : (t0 t1 t2 t3 head lines doubts : List ℕ) → t1 ≡ t0 ++ head → t2 ≡ t1 ++ lines → t3 ≡ t2 ++ doubts
    → t3 ≡ t0 ++ (head ++ (lines ++ doubts))
log_told t0 t1 t2 t3 head lines doubts first second third =
    third ∙ ap (λ t. t ++ doubts) (second ∙ ap (λ t. t ++ lines) first ∙ append_assoc t0 head lines) ∙ append_assoc t0 (head ++ lines) doubts
    ∙ ap (λ t. t0 ++ t) (append_assoc head lines doubts)

-- ---- as JSON

pub rows_next : (rows : List LogJson) (one : LogJson) (ns ns' : List Numbers) → map (λ (r : LogJson). r.told.numbers) rows ≡ ns
    → ns' ≡ ns ++ one.told.numbers ∷ [] → map (λ (r : LogJson). r.told.numbers) (rows ++ one ∷ []) ≡ ns'
rows_next rows one ns ns' numbers its_numbers =
    map-append (λ (r : LogJson). r.told.numbers) rows (one ∷ []) ∙ ap (λ (a : List Numbers). a ++ one.told.numbers ∷ []) numbers ∙ sym its_numbers

-- a mark, and the next log
pub json_next : (rows : List LogJson) (one : LogJson) (head mark t0 t1 t2 : List ℕ) → t0 ≡ head ++ commas (map (λ (r : LogJson). r.text) rows)
    → mark ≡ mark_after (length rows) → t1 ≡ t0 ++ mark → t2 ≡ t1 ++ one.text
    → t2 ≡ head ++ commas (map (λ (r : LogJson). r.text) (rows ++ one ∷ []))
json_next rows one head mark t0 t1 t2 text marked first second =
    let texts : List (List ℕ) = map (λ (r : LogJson). r.text) rows in
    second ∙ ap (λ (t : List ℕ). t ++ one.text) first ∙ append_assoc t0 mark one.text
    ∙ ap₂ (λ (a m : List ℕ). a ++ (m ++ one.text)) text (marked ∙ ap mark_after (sym (length-map rows (λ (r : LogJson). r.text))))
    ∙ append_assoc head (commas texts) (mark_after (length texts) ++ one.text)
    ∙ ap (λ (t : List ℕ). head ++ t) (sym (commas_more texts one.text))
    ∙ ap (λ (l : List (List ℕ)). head ++ commas l) (sym (map-append (λ (r : LogJson). r.text) rows (one ∷ [])))

pub json_whole : (rows : List LogJson) (ns : List Numbers) (t0 t1 t2 t3 : List ℕ) → map (λ (r : LogJson). r.told.numbers) rows ≡ ns
    → t0 ≡ codes "{\"logs\":[" ++ commas (map (λ (r : LogJson). r.text) rows) → t1 ≡ t0 ++ codes "]" → t2 ≡ t1 ++ several_json ns
    → t3 ≡ t2 ++ codes "}\n" → AreLogsJson (map (λ (r : LogJson). r.told) rows) t3
json_whole rows ns t0 t1 t2 t3 numbers text first second third =
    let rest : List Numbers → List ℕ = λ all. codes "]" ++ (several_json all ++ codes "}\n") in (
      rows,
      refl,
      log_told t0 t1 t2 t3 (codes "]") (several_json ns) (codes "}\n") first second third
          ∙ ap₂ (λ (t : List ℕ) (all : List Numbers). t ++ rest all) text (sym numbers)
          ∙ append_assoc (codes "{\"logs\":[") (commas (map (λ (r : LogJson). r.text) rows)) (rest (map (λ (r : LogJson). r.told.numbers) rows)),
    )
