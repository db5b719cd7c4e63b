use Rattle.std.proofs.Common.{◌∙◌, ◌++◌, ◌∷◌, ◌+◌, [], List, ℕ, arith, codes, map, rules, string_bytes, subst, sym, take}
use Rattle.std.proofs.lemmas.List.{map-append, take_all}
use denote.Bor.{Bor}
use Rattle.showing.specs.JsonTexts.{LogJson}
use Rattle.showing.specs.StatsTexts.{AreNumbersOf, ToldLog}
use Rattle.showing.proofs.JsonLines.{mark_more}
use Rattle.showing.proofs.Summing.{json_next, json_whole, numbers_more, rows_next}
use Rattle.showing.proofs.files.stats_files_json.Goals as goal

pub loop-log-preserved : goal.loop-log-preserved
loop-log-preserved g c =
    let so_far = c.loop-log.invariant in
    let none : Bor (List ℕ) = record { ref_ptr = (0, 0); now = [] } in
    let one = c.in_ok-tell_log_json.ensures.told in
    let named = g.F.Files.is_named c.args.files.now in
    let rows : List LogJson = so_far.0 in
    let next : ℕ = c.loop-log.log-index + 1 in (
      rows ++ one.0 ∷ [],
      subst (λ (told : List ToldLog). AreNumbersOf g.F.Log.Disk.keeps_model g.F.Log.Disk.file named (map (λ log. log.now) (take next c.args.logs.now)) told)
          (sym (map-append (λ (r : LogJson). r.told) rows (one.0 ∷ [])))
          (numbers_more g.F.Log.Disk.keeps_model g.F.Log.Disk.file named (λ (log : Bor (List ℕ)). log.now) c.args.logs.now c.loop-log.log-index none
          (map (λ (r : LogJson). r.told) rows) one.0.told one.4.0 c.loop-log-test.true so_far.1 one.1 one.4.1 one.4.2),
      rows_next rows one.0 c.loop-log.told.items c.tell_log_json.new.told.items so_far.2 one.2,
      mark_more rows one.0,
      json_next rows one.0 (codes "{\"logs\":[") c.loop-log.mark.now (string_bytes c.loop-log.text) (string_bytes c.push_str.new.self)
          (string_bytes c.tell_log_json.new.text) so_far.4 so_far.3 (search rules) one.3,
    )

pub returns-clause-named : goal.returns-clause-named
returns-clause-named g c =
    let all = c.loop-log.invariant in
    let named = g.F.Files.is_named c.args.files.now in (
      map (λ (r : LogJson). r.told) all.0,
      subst (λ (logs : List (Bor (List ℕ))). AreNumbersOf g.F.Log.Disk.keeps_model g.F.Log.Disk.file named (map (λ (log : Bor (List ℕ)). log.now) logs)
          (map (λ (r : LogJson). r.told) all.0))
          (take_all c.loop-log.log-index c.args.logs.now (omega (arith, c.loop-log-test.false))) all.1,
      json_whole all.0 c.deref.result.now (string_bytes c.loop-log.text) (string_bytes c.push_str-2.new.self) (string_bytes c.push_several_json.new.text)
          (string_bytes c.push_str-3.new.self) (all.2 ∙ sym c.deref.ensures.value) all.4 (search rules) c.in_ok-push_several_json.ensures.sums (search rules),
    )

pub returns-clause-text : goal.returns-clause-text
returns-clause-text g c = let all = returns-clause-named g c in (all.0, all.1.0, all.2)
