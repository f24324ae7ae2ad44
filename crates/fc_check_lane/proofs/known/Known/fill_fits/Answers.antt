use Rattle.fc_check_lane.proofs.Answering.{reply_fit}
use Rattle.fc_check_lane.proofs.known.Known.fill_fits.Goals as goal

pub returns-in-DiskFault : goal.returns-in-DiskFault
returns-in-DiskFault c = reply_fit c.args.self.now c.args.number c.args.map.0 c.args.place c.args.entry.now _ c.args.reply.now _ c.in-DiskFault.is c.fault_of_fill_fits.ensures

pub returns-in-NoMemory : goal.returns-in-NoMemory
returns-in-NoMemory c = reply_fit c.args.self.now c.args.number c.args.map.0 c.args.place c.args.entry.now _ c.args.reply.now _ c.in-NoMemory.is c.want_of_fill_fits.ensures
