-- `answer` meets its contract: the text is never short.
use mathlib.Core.Path.{refl}
use Rattle.reply.proofs.Main.{reply_suffices}
use Rattle.desk.proofs.Front.{stands_there}
use Rattle.desk.proofs.answer.Goals as goal

pub unwrap-requires : goal.unwrap-requires
unwrap-requires c = rw (reply_suffices c.requires c.reply.ensures).0 refl

pub returns : goal.returns
returns c = stands_there c.requires c.reply.ensures c.unwrap.ensures
