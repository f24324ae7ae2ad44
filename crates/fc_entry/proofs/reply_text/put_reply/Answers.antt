use Rattle.fc_entry.proofs.reply_text.put_reply.Goals as goal

pub returns-in-Done : goal.returns-in-Done
returns-in-Done g c = rw c.in-Done.is c.put_text.ensures

pub returns-in-Made : goal.returns-in-Made
returns-in-Made g c = rw c.in-Made.is c.put_made.ensures

pub returns-in-Bytes : goal.returns-in-Bytes
returns-in-Bytes g c = rw (c.in-Bytes.is, ← c.as_slice.ensures.value) c.put_bytes.ensures

pub returns-in-Listed : goal.returns-in-Listed
returns-in-Listed g c = rw (c.in-Listed.is, ← c.as_slice-in-Listed.ensures) c.put_row_count.ensures

pub returns-in-Moved : goal.returns-in-Moved
returns-in-Moved g c = rw c.in-Moved.is c.put_numbers.ensures

pub returns-in-Idle : goal.returns-in-Idle
returns-in-Idle g c = rw c.in-Idle.is c.put_text-in-Idle.ensures

pub returns-in-Offline : goal.returns-in-Offline
returns-in-Offline g c = rw c.in-Offline.is c.put_offline.ensures

pub returns-in-NotAccessible : goal.returns-in-NotAccessible
returns-in-NotAccessible g c = rw c.in-NotAccessible.is c.put_number.ensures

pub returns-in-DiskFault : goal.returns-in-DiskFault
returns-in-DiskFault g c = rw c.in-DiskFault.is c.put_text-in-DiskFault.ensures

pub returns-in-MediumError : goal.returns-in-MediumError
returns-in-MediumError g c = rw c.in-MediumError.is c.put_text-in-MediumError.ensures

pub returns-in-NoMemory : goal.returns-in-NoMemory
returns-in-NoMemory g c = rw c.in-NoMemory.is c.put_text-in-NoMemory.ensures

pub returns-in-Refused : goal.returns-in-Refused
returns-in-Refused g c = rw c.in-Refused.is c.put_refused.ensures
