use Rattle.mp_words.specs.Shown.{request_seen}
use Rattle.mp_run.proofs.Steps.{says_files, writes_files}
use Rattle.mp_run.proofs.top.result_of.Goals as goal

pub returns-in-Ok-expanded-clause-says : goal.returns-in-Ok-expanded-clause-says
returns-in-Ok-expanded-clause-says g c =
    says_files c.args.words.now (request_seen c.in-Ok.request) c.in-Ok-expanded.text c.in-Ok.ensures.reads (g.F.Files.outside c.args.files.now).listing c.in-Ok-expanded.ensures.says c.done.result c.done.ensures.says

pub returns-in-Ok-expanded-clause-writes : goal.returns-in-Ok-expanded-clause-writes
returns-in-Ok-expanded-clause-writes g c =
    writes_files c.args.words.now (request_seen c.in-Ok.request) c.in-Ok-expanded.text c.in-Ok.ensures.reads (g.F.Files.outside c.args.files.now).listing c.in-Ok-expanded.ensures.says c.done.result c.done.ensures.done
