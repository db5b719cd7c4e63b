-- The definitions of whole runs that are shut by default, named once: `unfolding computing` lets an example compute through
-- all of them and through those below.
use Rattle.spelling.specs.Grammar.{parts_spelling}
use Rattle.protocol.specs.Computing.{computing as computing_steps}
use Rattle.session.specs.Computing.{computing as computing_sessions}
use Rattle.world.specs.World.{step_of_opening, wanted, effect, finished, crashed_in, failed_in, failed_turn, put_out, to_session, did}
use Rattle.world.specs.World.{did_with_failure, deliver_to, acts}
use Rattle.world.specs.World.{happens, start, run, replies_of_run, logs_of, areas_of, counted_lines}
use Rattle.world.specs.Lawful.{may_act, lawful}

-- the list of names
unfoldable pub computing : Unit {0}
unfolding computing_steps computing_sessions parts_spelling step_of_opening wanted effect finished crashed_in failed_in failed_turn put_out to_session did
    did_with_failure
    deliver_to
    acts happens start run replies_of_run logs_of areas_of counted_lines may_act lawful
computing = tt
