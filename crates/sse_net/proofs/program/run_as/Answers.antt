use Rattle.std.proofs.Common.{inl, inr, refl}
use Rattle.sse_net.proofs.Streams.{as_owner, same_shows, unreached_at}
use Rattle.sse_net.proofs.program.run_as.Goals as goal

-- the number went out, and the run followed
pub returns-in-Ok-clause-runs : goal.returns-in-Ok-clause-runs
returns-in-Ok-clause-runs g c = as_owner _ _ _ _ _ _ _ _ _ _ _ _ c.in-Some.is (inl (record {
  begun = c.begin_as.new.self;
  head = c.in-Ok.ensures.head;
  unanswered = same_shows _ _ _ _ _ _ c.in-Ok.ensures.untold c.in-Ok.ensures.steady c.in-Ok.ensures.began_kept;
  ran = c.run_words.ensures.runs;
}))

-- it didn't go out whole, and nothing was read
pub returns-in-Err-clause-runs : goal.returns-in-Err-clause-runs
returns-in-Err-clause-runs g c = as_owner _ _ _ _ _ _ _ _ _ _ _ _ c.in-Some.is (inr (record {
  front = c.in-Err.ensures.less;
  nothing_passed = c.in-Err.ensures.untold;
  cause = c.in-Err.ensures.cause;
  unkept = refl;
  end = record { unread = refl; status_is = c.finish.ensures.status; line = c.finish.ensures.line };
}))

pub returns-in-Err-clause-streams : goal.returns-in-Err-clause-streams
returns-in-Err-clause-streams g c = unreached_at _ _ _ _ _ c.finish.ensures.status
