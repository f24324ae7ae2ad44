use Rattle.fc_reading_requests.proofs.Requested.{the-law}
use Rattle.fc_reading_requests.proofs.requests_law.Goals as goal

pub returns : goal.returns
returns c = the-law
