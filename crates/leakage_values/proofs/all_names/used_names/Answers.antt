use Rattle.std.proofs.Common.{◌∙◌}
use Rattle.leakage_history.specs.HashedRun.{run_of}
use Rattle.leakage_values.proofs.OnceLaws.{names-numbered}
use Rattle.leakage_values.proofs.all_names.used_names.Goals as goal

pub returns : goal.returns
returns c o is =
    names-numbered o (run_of c.args.history.now) c.as_slice.result.now c.as_slice-2.result.now c.new-names.result c.push_lists.new.names c.push_lists-2.new.names
    c.new-names.ensures (c.as_slice.ensures ∙ c.in_ok-drawn.ensures o is) (c.as_slice-2.ensures ∙ c.in_ok-probed.ensures o is)
    c.in_ok-push_lists.ensures.names c.in_ok-push_lists-2.ensures.names
