-- Before the first entry, between two, and where metadata is made anew.
use Rattle.std.proofs.Common.{◌≡◌, ◌<◌, Option, Some, None, List, [], ◌∷◌, length, refl, sym, ◌∙◌, arith, ◌⊎◌, inl, inr}
use Rattle.std.proofs.lemmas.List.{length-replicate}
use Rattle.fc_base.specs.Pools.{Pool}
use Rattle.fc_base.specs.declared.request.Request.{Request}
use Rattle.fc_base.specs.declared.size.GrainSize.{GrainSize}
use Rattle.fc_books.specs.Books.{opened_books}
use Rattle.fc_books.specs.Sound.{AreSound}
use Rattle.fc_changed.specs.Row.{Row}
use Rattle.fc_decided.proofs.Lists.{none_in}
use Rattle.fc_decided.proofs.Opening.{opening_stands}
use Rattle.fc_entry.specs.declared.entry.Entry.{Entry}
use Rattle.fc_legal.specs.Steps.{Step}
use Rattle.fc_legal.specs.Whole.{Whole, opened, single_lane}
use Rattle.fc_pictures.proofs.Agreeing.{lane_law_holds}
use Rattle.fc_kept.specs.Disks.{NamedDisk}
use Rattle.fc_kept.specs.Drops.{DropsTo.same}
use Rattle.fc_kept.specs.Marks.{least_asked, LeastStep}
use Rattle.fc_kept.specs.OneGrain.{Another}
use Rattle.fc_kept.specs.Prefix.{Prefix.acknowledged, Prefix.whole}
use Rattle.fc_kept.specs.Recoverable.{Recoverable}
use Rattle.fc_kept.specs.Sound.{books_of, IsSoundKept}
use Rattle.fc_kept.proofs.Marking.{mark_law}
use Rattle.law_crash.specs.Points.{Point, stored_by, StandsFor, nothing_kept}
use Rattle.law_crash.specs.Doing.{IsFound, with_kept}
use Rattle.law_crash.proofs.Folding.{fold_stands}
use Rattle.law_crash.proofs.Found.{found_asked}
use Rattle.law_crash.proofs.Making.{from_found, found_here}

-- ---- no volumes

-- that books are sound doesn't go by the disks that are left
no_books : AreSound (books_of nothing_kept)
no_books =
    let a : AreSound (opened_books (record { flat = 0; thin = 0 } ∷ [])) = (opening_stands (record { flat = 0; thin = 0 } ∷ []) (omega arith)).sound in
    record {
      tables = record {
        volumes = a.tables.volumes;
        mappings = a.tables.mappings;
        groups = a.tables.groups;
        new_volume = a.tables.new_volume;
        new_mapping = a.tables.new_mapping;
        new_group = a.tables.new_group;
      };
      flags = record { rising = a.flags.rising; given = a.flags.given };
      sheet = a.sheet;
      agree = record {
        volumes = a.agree.volumes;
        slots = a.agree.slots;
        owned = a.agree.owned;
        mappings = a.agree.mappings;
        by_state = a.agree.by_state;
        one_busy = a.agree.one_busy;
      };
    }

nothing_sound : IsSoundKept nothing_kept
nothing_sound =
    record {
      books = no_books;
      rows = record { each = λ k d kl. absurd (let l : k < 0 = kl in omega arith); distinct = λ i j d ij jl e. let l : j < 0 = jl in omega arith };
      into = λ k d kl. absurd (let l : k < 0 = kl in omega arith);
      lost = record { volumes = refl; sizes = λ k d kl. absurd (let l : k < 0 = kl in omega arith) };
      grains = λ k d kl. absurd (let l : k < 0 = kl in omega arith);
      births = omega arith;
      volume_ids = omega arith;
      mapping_ids = omega arith;
      group_ids = omega arith;
    }

pub opens : (grain : GrainSize) (pools : List Pool) (disks : List (List NamedDisk)) → length disks ≡ length pools → let p : Point = record { kept = nothing_kept; disks = disks } in StandsFor grain (opened pools) [] p
opens grain pools disks e =
    let p : Point = record { kept = nothing_kept; disks = disks } in
    record {
      says = record {
        sound = nothing_sound;
        tables = refl;
        next_volume = refl;
        next_mapping = refl;
        next_group = refl;
        slots = same;
        rows = tt;
        count = e ∙ sym (length-replicate (length pools) 0);
        fit = λ i il. record {
          named = λ v d c f. absurd (none_in v c);
          unnamed = λ v c f. absurd (none_in v c);
          one = λ v w vc wc f g. absurd (none_in v vc);
        };
      };
      shows = (lane_law_holds.none (stored_by grain (opened pools) p)).shows;
    }

-- ---- between two entries

pub rests : (grain : GrainSize) (w : Whole) (least : List Row) (asked : Option Request) (p : Point) → StandsFor grain w least p → Recoverable grain p.disks p.kept w least asked None
rests grain w least asked p st =
    let s = st.says in
    found_asked grain w w least (least_asked (single_lane grain) least asked) asked p (acknowledged asked)
    (record {
      says = record {
        sound = s.sound;
        tables = s.tables;
        next_volume = s.next_volume;
        next_mapping = s.next_mapping;
        next_group = s.next_group;
        slots = s.slots;
        rows = mark_law.asked (single_lane grain) p.kept.rows w.rows least asked s.rows;
        count = s.count;
        fit = s.fit;
      };
      shows = st.shows;
    })

-- ---- metadata made anew

pub turned : (grain : GrainSize) (w next : Whole) (least least' : List Row) (entry : Entry) (p q x : Point) (one : Option Another) → Step grain w entry next → LeastStep grain w least entry.request entry next least' →
    StandsFor grain w least p → StandsFor grain next least' q → IsFound w.books.sheet p one x ⊎ IsFound next.books.sheet q one x → Recoverable grain x.disks x.kept w least (Some entry.request) one
turned grain w next least least' entry p q x one right marks before behind f =
    elim f [
      | inl y ↦ from_found grain w least entry.request w.books.sheet p x one y (λ k m. rests grain w least (Some entry.request) (with_kept k p) (fold_stands grain w least p k m before))
      | inr y ↦ found_here grain w next least least' entry.request q x one (whole entry next least' right marks) behind y
    ]
