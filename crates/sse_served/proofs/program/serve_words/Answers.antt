use Rattle.std.proofs.Common.{Err, Ok, refl}
use Rattle.sse_served.proofs.program.serve_words.Goals as goal

pub returns-in-Ok-clause-serves : goal.returns-in-Ok-clause-serves
returns-in-Ok-clause-serves g c = record {
  end = Ok c.in-Ok.field-0;
  between = g.W.Sink.written c.say_line.new.sink;
  faults_between = g.W.Sink.faults c.say_line.new.sink;
  shortages_between = g.W.Sink.shortages c.say_line.new.sink;
  began = c.say_line.ensures;
  served = c.in-Ok.ensures;
  ended_so = (refl, refl, refl, refl);
}

pub returns-in-Err-clause-serves : goal.returns-in-Err-clause-serves
returns-in-Err-clause-serves g c = record {
  end = Err c.in-Err.stop;
  between = g.W.Sink.written c.say_line.new.sink;
  faults_between = g.W.Sink.faults c.say_line.new.sink;
  shortages_between = g.W.Sink.shortages c.say_line.new.sink;
  began = c.say_line.ensures;
  served = c.in-Err.ensures;
  ended_so = c.finish.ensures;
}
