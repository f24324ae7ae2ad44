use Rattle.std.proofs.Common.{refl}
use Rattle.fc_format.specs.Bytes.{record_bytes}
use Rattle.fc_format.proofs.write.record_len.Goals as goal

pub returns-in-Pair : goal.returns-in-Pair
unfolding record_bytes
returns-in-Pair c = rw c.in-Pair.is refl

pub returns-in-Torn : goal.returns-in-Torn
unfolding record_bytes
returns-in-Torn c = rw c.in-Torn.is refl

pub returns-in-Written : goal.returns-in-Written
unfolding record_bytes
returns-in-Written c = rw c.in-Written.is refl

pub returns-in-Changing : goal.returns-in-Changing
unfolding record_bytes
returns-in-Changing c = rw c.in-Changing.is refl
