use Rattle.std.proofs.Common.{◌≡◌, ◌∙◌, ◌+◌, ◌-◌, ◌<◌, ◌≤◌, ℕ, suc, List, [], length, set, get_or, ap, sym, arith}
use Rattle.std.specs.List.{insert}
use Rattle.std.proofs.lemmas.List.Edits.{length-insert}
use Rattle.versions.specs.declared.chunk.Spot.{Spot}
use Rattle.versions.specs.Pieces.{joined, ends_from, start_by, raised}
use Rattle.versions.proofs.Pieces.{length-ends, start-is, start, end-within, any_default, insert_there, laid_more, ends_more, raised-none}
use Rattle.versions.proofs.Pieces.{not_raised, raised-more}
use Rattle.versions.proofs.sequence.insert_in.Goals as goal

pub start_of-start-requires : goal.start_of-start-requires
start_of-start-requires c = omega (arith, c.requires.number, ap length c.requires.ends, length-ends c.args.pieces.now 0)

pub loop-later-init : goal.loop-later-init
loop-later-init c = record {
  from = omega arith;
  within = omega (arith, c.requires.number, ap length c.requires.ends, length-ends c.args.pieces.now 0);
  ends = sym (raised-none c.args.number c.args.ends.now);
}

-- an end that was not raised yet
still : (n m : ℕ) (es old : List ℕ) (ps : List (List Spot)) → n ≤ m → m < length old → es ≡ raised n m old → old ≡ ends_from 0 ps
    → (get_or es m 0 ≡ get_or old m 0) × (get_or es m 0 ≤ length (joined ps))
still n m es old ps le lt is all =
    let same = ap (λ (e : List ℕ). get_or e m 0) is ∙ not_raised n m old le in
    let there : m < length ps = omega (arith, lt, ap length all, length-ends ps 0) in
    (same, omega (arith, same, ap (λ (e : List ℕ). get_or e m 0) all, end-within ps m there))

pub overflow_add-ends : goal.overflow_add-ends
overflow_add-ends c =
    let i = c.loop-later.invariant in
    let here =
    still c.args.number c.loop-later.later c.loop-later.ends c.args.ends.now c.args.pieces.now i.from c.loop-later-test.true i.ends c.requires.ends in
    omega (arith, here.1, c.requires.limit)

pub loop-later-preserved : goal.loop-later-preserved
loop-later-preserved c =
    let i = c.loop-later.invariant in
    let m = c.loop-later.later in
    let old = c.args.ends.now in
    let here = still c.args.number m c.loop-later.ends old c.args.pieces.now i.from c.loop-later-test.true i.ends c.requires.ends in
    let more = get_or c.loop-later.ends m 0 + 1 in
    let next : suc m ≡ m + 1 = omega arith in
    record {
      from = omega (arith, i.from);
      within = omega (arith, c.loop-later-test.true);
      ends =
          ap (λ (e : List ℕ). set e m more) i.ends
          ∙ raised-more c.args.number m more old i.from c.loop-later-test.true (omega (arith, here.0))
          ∙ ap (λ (k : ℕ). raised c.args.number k old) next;
    }

pub returns-clause-spots : goal.returns-clause-spots
returns-clause-spots c =
    let ps = c.args.pieces.now in
    let n = c.args.number in
    let place = c.args.at - c.start_of-start.result in
    let made : c.insert.new.self ≡ insert (get_or ps n []) place c.args.spot = c.insert.ensures ∙ ap (λ (q : List Spot). insert q place c.args.spot)
    (any_default ps n c.index-pieces-number.result [] c.requires.number) in
    let begins : c.start_of-start.result ≡ start ps n =
    c.start_of-start.ensures ∙ ap (λ (e : List ℕ). start_by e n) c.requires.ends ∙ start-is ps n (omega (arith, c.requires.number)) in
    let same = start-is ps n (omega (arith, c.requires.number)) in
    let there : start ps n + place ≡ c.args.at = omega (arith, begins, same, c.requires.at.from) in
    ap (λ (q : List Spot). joined (set ps n q)) made
    ∙ insert_there ps n place c.args.spot c.requires.number (omega (arith, begins, same, c.requires.at.to))
    ∙ ap (λ (m : ℕ). insert (joined ps) m c.args.spot) there

pub returns-clause-laid : goal.returns-clause-laid
returns-clause-laid c =
    let ps = c.args.pieces.now in
    let n = c.args.number in
    let place = c.args.at - c.start_of-start.result in
    let made : c.insert.new.self ≡ insert (get_or ps n []) place c.args.spot = c.insert.ensures ∙ ap (λ (q : List Spot). insert q place c.args.spot)
    (any_default ps n c.index-pieces-number.result [] c.requires.number) in
    let begins : c.start_of-start.result ≡ start_by (ends_from 0 ps) n = c.start_of-start.ensures ∙ ap (λ (e : List ℕ). start_by e n) c.requires.ends in
    let within : place ≤ length (get_or ps n []) = omega (arith, begins, c.requires.at.to) in
    let long : length c.insert.new.self ≡ suc (length (get_or ps n [])) =
    omega (arith, ap length made, length-insert (get_or ps n []) place c.args.spot within) in
    laid_more ps n c.insert.new.self c.requires.number long (omega (arith, long, c.requires.room)) c.requires.laid

pub returns-clause-ends : goal.returns-clause-ends
returns-clause-ends c =
    let ps = c.args.pieces.now in
    let n = c.args.number in
    let place = c.args.at - c.start_of-start.result in
    let made : c.insert.new.self ≡ insert (get_or ps n []) place c.args.spot = c.insert.ensures ∙ ap (λ (q : List Spot). insert q place c.args.spot)
    (any_default ps n c.index-pieces-number.result [] c.requires.number) in
    let begins : c.start_of-start.result ≡ start_by (ends_from 0 ps) n = c.start_of-start.ensures ∙ ap (λ (e : List ℕ). start_by e n) c.requires.ends in
    let within : place ≤ length (get_or ps n []) = omega (arith, begins, c.requires.at.to) in
    let long : length c.insert.new.self ≡ suc (length (get_or ps n [])) =
    omega (arith, ap length made, length-insert (get_or ps n []) place c.args.spot within) in
    let i = c.loop-later.invariant in
    let all : c.loop-later.later ≡ length ps = omega (arith, i.within, c.loop-later-test.false, ap length c.requires.ends, length-ends ps 0) in
    i.ends
    ∙ ap (λ (m : ℕ). raised n m c.args.ends.now) all
    ∙ ap (raised n (length ps)) c.requires.ends
    ∙ sym (ends_more ps n 0 c.insert.new.self c.requires.number long)
