use Rattle.std.proofs.Common.{◌≡◌, ◌+◌, ◌∙◌, ◌||◌, sym, ap, List, ◌∷◌, drop}
use Rattle.std.proofs.lemmas.List.{drop_more, at_drop_all}
use Rattle.units.specs.Locks.{exclusive}
use Rattle.units.specs.declared.writes.Write.{Write}
use Rattle.locks.specs.Ways.{ids_in_way, is_kept_out}
use Rattle.locks.proofs.Each.{ends_none, kept_cons, kept_by_nobody}
use Rattle.locks.proofs.Named.{alone_ends, alone_kept, ids_passed}
use Rattle.locks.proofs.requests.is_undisputed.Goals as goal

pub loop-write-preserved : goal.loop-write-preserved
loop-write-preserved c =
    let writes = c.as_slice-write-items.result.now in
    let at = c.loop-write.write-index in
    let x = c.write-item.result in
    let rest = exclusive (drop (at + 1) writes) in
    let claims = c.args.claims.now in
    let there : drop at writes ≡ x ∷ drop (at + 1) writes =
    drop_more writes at x c.loop-write-test.true ∙ ap (λ (y : Write). y ∷ drop (at + 1) writes) (sym c.write-item.is) in
    let seems = sym c.seems_alone.ensures ∙ c.if-not-seems_alone.false in
    record {
      nobody = sym (ap (λ (l : List Write). ids_in_way c.args.txn (exclusive l) claims) there
          ∙ ids_passed c.args.txn _ rest claims (alone_ends c.args.tally.now claims c.args.txn _ c.requires seems))
          ∙ c.loop-write.invariant.nobody;
      lets = sym (ap (λ (l : List Write). is_kept_out c.args.txn (exclusive l) claims) there
          ∙ kept_cons c.args.txn _ rest claims
          ∙ ap (λ b. b || is_kept_out c.args.txn rest claims) (alone_kept c.args.tally.now claims c.args.txn _ c.requires seems))
          ∙ c.loop-write.invariant.lets;
    }

pub returns-clause-nobody : goal.returns-clause-nobody
returns-clause-nobody c =
    let ids = λ (l : List Write). ids_in_way c.args.txn (exclusive l) c.args.claims.now in
    λ yes. sym (ap ids c.as_slice-write-items.ensures.same) ∙ sym c.loop-write.invariant.nobody
    ∙ at_drop_all ids c.as_slice-write-items.result.now c.loop-write.write-index c.loop-write-test.false
    ∙ ends_none c.args.txn c.args.claims.now

pub returns-clause-lets : goal.returns-clause-lets
returns-clause-lets c =
    let keeps = λ (l : List Write). is_kept_out c.args.txn (exclusive l) c.args.claims.now in
    λ yes. sym (ap keeps c.as_slice-write-items.ensures.same) ∙ sym c.loop-write.invariant.lets
    ∙ at_drop_all keeps c.as_slice-write-items.result.now c.loop-write.write-index c.loop-write-test.false
    ∙ kept_by_nobody c.args.txn c.args.claims.now
