-- The law is proved in `Going`.
use Rattle.law_noted.proofs.HandEnds.{rows_on, runs_on}
use Rattle.law_noted.proofs.HandMoved.{moved_alone}
use Rattle.law_noted.proofs.HandOn.{alone_found, begins, first, found, is_wanted, put, put_mark}
use Rattle.law_noted.proofs.going_law.Goals as goal

pub returns : goal.returns
returns c = record {
  begins = begins;
  first = first;
  found = found;
  put = put;
  wanted = λ grain w least place doing begun now steps before q part marks h rows e same. is_wanted grain w least place doing begun now steps before q h part marks rows same;
  marks = λ grain w least place doing begun now steps before q part h e due. put_mark grain w least place doing begun now steps before q h part e due;
  uncopied_found = λ grain w least place doing begun now steps before q m back h e copies a. alone_found grain w least place doing begun now steps before q h m back e copies a;
  uncopied = moved_alone;
  ends = λ grain w least place doing begun now steps before q entries entry i h over x run step. runs_on grain w least place doing begun now steps before q h over entry x entries i run step;
  rows = λ grain w least place doing begun now steps before q entry marks h over x same. rows_on grain w least place doing begun now steps before q h over entry x marks same;
}
