-- A decision that does nothing, or arms a disk alone.
use Rattle.std.proofs.Common.{ℕ, ◌+◌, ◌*◌, ◌<◌, ◌≤◌, ◌^◌, [], ◌∷◌, refl, arith}
use Rattle.fc_base.specs.declared.decision.LaneEvent.TheVariants.{Arm}
use Rattle.fc_base.specs.declared.ids.GrainNo.{GrainNo}
use Rattle.fc_base.specs.declared.ids.VolId.{VolId}
use Rattle.fc_base.specs.declared.size.GrainSize.{GrainSize}
use Rattle.fc_books.specs.Books.{Books, nothing, told}
use Rattle.fc_legal.specs.Stands.{AreFew, Stands}
use Rattle.fc_legal.specs.Whole.{Whole}
use Rattle.fc_decided.proofs.Frame.{Suits, few_births}
use Rattle.fc_decided.proofs.Keeping.{keeps_all}
use Rattle.fc_decided.proofs.Sparing.{sparing}

pub few_more : (b : Books) (decisions : ℕ) → AreFew b decisions → AreFew b (decisions + 1)
few_more b decisions few =
    record {
      volumes = omega (arith, few.volumes);
      mappings = omega (arith, few.mappings);
      groups = omega (arith, few.groups);
      births = omega (arith, few.births);
      at_once = few.at_once;
      volumes_at_once = few.volumes_at_once;
    }

pub births_fit : (b : Books) (decisions : ℕ) → decisions < 2 ^ 32 → AreFew b decisions → b.sheet.births < 2 ^ 64
births_fit b decisions small few = few_births decisions b.sheet.births small (let le : b.sheet.births ≤ decisions * 2 ^ 20 = few.births in omega (arith, le))

pub nothing_suits : (grain : GrainSize) (decisions : ℕ) (w : Whole) → decisions < 2 ^ 32 → Stands decisions w → Suits grain decisions w nothing
nothing_suits grain decisions w small st =
    record {
      fits = births_fit w.books decisions small st.few;
      disks = tt;
      no_work = tt;
      gone = tt;
      fit_changes = tt;
      picture = refl;
      volumes = refl;
      later = omega arith;
      tables = st.sound.tables;
      agree = st.sound.agree;
      few = few_more w.books decisions st.few;
      plain = st.plain;
      begins = sparing tt;
      keeps = keeps_all w.books.tables w.books.tables [] refl refl;
    }

pub arm_suits : (grain : GrainSize) (decisions : ℕ) (w : Whole) (volume : VolId) (place : GrainNo) (calls : ℕ) → decisions < 2 ^ 32 → Stands decisions w → Suits grain decisions w (told (Arm volume place calls ∷ []))
arm_suits grain decisions w volume place calls small st =
    record {
      fits = (tt, births_fit w.books decisions small st.few);
      disks = (tt, tt);
      no_work = (tt, tt);
      gone = (tt, tt);
      fit_changes = tt;
      picture = refl;
      volumes = refl;
      later = omega arith;
      tables = st.sound.tables;
      agree = st.sound.agree;
      few = few_more w.books decisions st.few;
      plain = st.plain;
      begins = sparing (tt, tt);
      keeps = keeps_all w.books.tables w.books.tables (Arm volume place calls ∷ []) refl refl;
    }
