-- Versions of the core that go keep its desk in step.
use Rattle.std.proofs.Common.{◌≡◌, ◌∙◌, ℕ, List, Option, Some, None, length, ap, sym, subst}
use Rattle.record.specs.Facts.{Facts}
use Rattle.ledger.specs.Keeps.{IsLasting}
use Rattle.ledger.specs.Turned.{versions_held}
use Rattle.ledger.proofs.Said.{held-keeps}
use Rattle.shard.specs.Books.{BookView}
use Rattle.shard.specs.Held.{without_passed}
use Rattle.shard.specs.Look.{safe_at}
use Rattle.shard.specs.On.{CoreView}
use Rattle.board.specs.declared.entry.BoardEntry.{BoardEntry}
use Rattle.node.specs.InStep.{InStep}
use Rattle.node.proofs.InStep.{let_go_in_step}

-- where the board has all of the core
by_book : (book : Option BookView) (facts : Facts) (served handed after : ℕ) (es : List BoardEntry) → IsLasting facts → handed ≡ length facts.installs
    → after ≡ length (without_passed book facts).installs → InStep facts.installs served handed facts.horizon es
    → InStep (without_passed book facts).installs served after (without_passed book facts).horizon es
by_book None facts served handed after es lasting all count step =
    subst (λ (n : ℕ). InStep (versions_held facts) served n facts.horizon es) (sym count)
    (let_go_in_step facts.installs served handed facts.horizon es step all (versions_held facts) (held-keeps facts lasting.regular).versions)
by_book (Some book) facts served handed after es lasting all count step =
    subst (λ (n : ℕ). InStep facts.installs served n facts.horizon es) (all ∙ sym count) step

pub gone_in_step : {D : Type 0} (old new : CoreView D) (book : Option BookView) (handed after : ℕ) (es : List BoardEntry)
    → new ≡ record old { facts = without_passed book old.facts } → IsLasting old.facts → handed ≡ length old.facts.installs
    → after ≡ length new.facts.installs → InStep old.facts.installs (safe_at old) handed old.facts.horizon es
    → InStep new.facts.installs (safe_at new) after new.facts.horizon es
gone_in_step {D} old new book handed after es is lasting all count step =
    subst (λ (core : CoreView D). InStep core.facts.installs (safe_at core) after core.facts.horizon es) (sym is)
    (by_book book old.facts (safe_at old) handed after es lasting all (count ∙ ap (λ (core : CoreView D). length core.facts.installs) is) step)
