use Rattle.std.proofs.Common.{append_assoc}
use Rattle.fc_entry.proofs.reply_text.put_made.Goals as goal

pub returns : goal.returns
returns g c =
    rw (append_assoc, append_assoc, ← c.made_words.ensures, ← c.format.ensures.text, ← c.as_bytes.ensures.value)
    c.put_all.ensures
