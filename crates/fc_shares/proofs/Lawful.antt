-- The law of shares, from what is proved of each part.
use Rattle.fc_shares.specs.Law.{ShareLaw}
use Rattle.fc_shares.proofs.Asked.{fits, in_volume, of_lane, refused}
use Rattle.fc_shares.proofs.Commands.{command, steps}
use Rattle.fc_shares.proofs.Lanes.{count, place, ready}
use Rattle.fc_shares.proofs.Leading.{apart, lane}
use Rattle.fc_shares.proofs.Openings.{closing, opening}

pub share_law_holds : ShareLaw
share_law_holds = record {
  opening = opening;
  closing = closing;
  lane = lane;
  apart = apart;
  command = command;
  steps = steps;
  place = place;
  count = count;
  ready = ready;
  of_lane = λ first s i request sound asked. of_lane first s sound i request asked;
  in_volume = λ first s request sound inside. in_volume first s sound request inside;
  refused = λ first s request refusal sound is. refused first s sound request refusal is;
  fits = λ first s i opening v volume block count sound share inside is. fits first s sound i opening v volume block count share inside is;
}
