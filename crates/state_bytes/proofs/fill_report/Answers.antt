-- `state_bytes::fill_report` meets its contract: one store, and four bytes for each count. Assumes nothing.
use Rattle.state_bytes.proofs.Laid.{reported}
use Rattle.state_bytes.proofs.fill_report.Goals as goal

pub returns : goal.returns
returns c =
    let k = c.put_word in
    reported c.args.report.now k.new.out c.put_word-2.new.out c.args.refusal c.args.taken c.args.written c.requires
    k.ensures c.put_word-2.ensures
