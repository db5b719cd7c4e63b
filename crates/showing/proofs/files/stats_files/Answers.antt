use Rattle.std.proofs.Common.{◌∙◌, ◌++◌, ◌∷◌, [], List, ℕ, arith, map, refl, string_bytes, subst, sym}
use Rattle.std.proofs.lemmas.List.{take_all}
use denote.Bor.{Bor}
use Rattle.showing.specs.StatsTexts.{AreNumbersOf}
use Rattle.showing.proofs.Summing.{numbers_more, numbers_next, text_next, with_several}
use Rattle.showing.proofs.files.stats_files.Goals as goal

pub loop-log-init : goal.loop-log-init
loop-log-init g c = ([], (refl, [], tt, λ _. refl), sym c.new-told.ensures.items, c.new-text.ensures.bytes)

pub loop-log-preserved : goal.loop-log-preserved
loop-log-preserved g c =
    let so_far = c.loop-log.invariant in
    let none : Bor (List ℕ) = record { ref_ptr = (0, 0); now = [] } in
    let one = c.in_ok-tell_log.ensures.told in (
      so_far.0 ++ one.0 ∷ [],
      numbers_more g.F.Log.Disk.keeps_model g.F.Log.Disk.file (g.F.Files.is_named c.args.files.now) (λ (log : Bor (List ℕ)). log.now) c.args.logs.now
          c.loop-log.log-index none so_far.0 one.0 one.4.0 c.loop-log-test.true so_far.1 one.1 one.4.1 one.4.2,
      numbers_next so_far.0 one.0 c.loop-log.told.items c.tell_log.new.told.items so_far.2 one.2,
      text_next so_far.0 one.0 (string_bytes c.loop-log.text) (string_bytes c.tell_log.new.text) so_far.3 one.3,
    )

pub returns-clause-named : goal.returns-clause-named
returns-clause-named g c =
    let all = c.loop-log.invariant in
    let named = g.F.Files.is_named c.args.files.now in (
      all.0,
      subst (λ (logs : List (Bor (List ℕ))). AreNumbersOf g.F.Log.Disk.keeps_model g.F.Log.Disk.file named (map (λ (log : Bor (List ℕ)). log.now) logs) all.0)
          (take_all c.loop-log.log-index c.args.logs.now (omega (arith, c.loop-log-test.false))) all.1,
      with_several all.0 c.deref.result.now (string_bytes c.loop-log.text) (string_bytes c.push_several.new.text) (all.2 ∙ sym c.deref.ensures.value) all.3
          c.in_ok-push_several.ensures.text,
    )

pub returns-clause-text : goal.returns-clause-text
returns-clause-text g c = let all = returns-clause-named g c in (all.0, all.1.0, all.2)
