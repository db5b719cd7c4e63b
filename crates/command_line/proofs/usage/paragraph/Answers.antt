-- A word that names no command has the page.
use Rattle.std.proofs.Common.{◌≡◌, sym, refl, Bool, true, false, ℕ, List, codes}
use Rattle.std.specs.Prelude.{if◌then◌else◌}
use Rattle.std.specs.Str.{bytes_eq}
use Rattle.std.proofs.lemmas.Slice.Eq.{bytes_eq-Decides}
use Rattle.command_line.specs.Lines.{Word}
use Rattle.command_line.specs.declared.usage.TheConstants.{PAGE, GET, PUT, HISTORY, STATS, DUMP, INSPECT, DRIVE, FORMAT}
use Rattle.command_line.specs.declared.usage.TheConstants.{MIGRATE, COMPACT, PLAY, ONCE, MAKE, SERVE, EXPORT, IMPORT, BACKUP, RENEW}
use Rattle.command_line.proofs.usage.paragraph.Goals as goal

differs : (name known : Word) → (name ≡ known → ⊥) → bytes_eq name known ≡ false
differs name known other = by (bytes_eq name known) refl
  where
    by : (b : Bool) → bytes_eq name known ≡ b → bytes_eq name known ≡ false
    by true same = absurd (other ((bytes_eq-Decides name known).0 same))
    by false e = e

-- the text by which names it is
abbrev text_by : Bool → Bool → Bool → Bool → Bool → Bool → Bool → Bool → Bool → Bool → Bool → Bool → Bool → Bool → Bool → Bool → Bool → Bool → List ℕ
text_by a b c d e f g h i j k l m n o p q r =
    if a then GET.now
    else (if b then PUT.now
    else (if c then HISTORY.now
    else (if d then STATS.now
    else (if e then DUMP.now
    else (if f then INSPECT.now
    else (if g then DRIVE.now
    else (if h then FORMAT.now
    else (if i then MIGRATE.now
    else (if j then COMPACT.now
    else (if k then PLAY.now
    else (if l then ONCE.now
    else (if m then MAKE.now
    else (if n then SERVE.now
    else (if o then EXPORT.now
    else (if p then IMPORT.now
    else (if q then BACKUP.now
    else (if r then RENEW.now
    else PAGE.now)))))))))))))))))

pub returns-in_default : goal.returns-in_default
returns-in_default c =
    let name = c.args.name.now in
    sym (λ i. text_by (differs name (codes "get") c.in_default.not-get i)
    (differs name (codes "put") c.in_default.not-put i)
    (differs name (codes "history") c.in_default.not-history i)
    (differs name (codes "stats") c.in_default.not-stats i)
    (differs name (codes "dump") c.in_default.not-dump i)
    (differs name (codes "inspect") c.in_default.not-inspect i)
    (differs name (codes "drive") c.in_default.not-drive i)
    (differs name (codes "format") c.in_default.not-format i)
    (differs name (codes "migrate") c.in_default.not-migrate i)
    (differs name (codes "compact") c.in_default.not-compact i)
    (differs name (codes "play") c.in_default.not-play i)
    (differs name (codes "once") c.in_default.not-once i)
    (differs name (codes "make") c.in_default.not-make i)
    (differs name (codes "serve") c.in_default.not-serve i)
    (differs name (codes "export") c.in_default.not-export i)
    (differs name (codes "import") c.in_default.not-import i)
    (differs name (codes "backup") c.in_default.not-backup i)
    (differs name (codes "renew") c.in_default.not-renew i))
