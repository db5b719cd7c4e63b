-- The definitions of sessions that are shut by default, named once.
use Rattle.session.specs.Sessions.{reads, buffers, hears, closing_messages, closes, gives_up}

-- the list of names
unfoldable pub computing : Unit {0}
unfolding reads buffers hears closing_messages closes gives_up
computing = tt
