use Rattle.std.proofs.Common.{◌≡◌, ◌∙◌, ◌++◌, List, length, map, reverse, ap, refl, sym, subst, arith}
use Rattle.std.proofs.lemmas.List.{map-append, append_assoc, length-append, length-map, length-reverse}
use Rattle.fc_base.specs.Grain.{grain_bytes}
use Rattle.fc_mdisk.specs.Disk.{DiskState}
use Rattle.fc_grains.specs.Grains.{GrainsState, AreAllOf, total_of}
use Rattle.fc_grains.specs.Kept.{all_disks, state_of}
use Rattle.fc_grains.specs.Parts.{QueuesState, SameDisks, VolumeDiskState, disks_in}
use Rattle.fc_grains.proofs.Handing.{hold_back, whole_back}
use Rattle.fc_grains.proofs.KindCounts.{total-pool}
use Rattle.fc_grains.proofs.Moving.{all_of, number_of, on_err_at, same_given}
use Rattle.fc_grains.proofs.Readying.{joined}
use Rattle.fc_grains.proofs.grains.Grains.give_disks.Goals as goal

pub give_volumes-requires : goal.give_volumes-requires
give_volumes-requires g c =
    omega (
      arith,
      c.requires,
      ap (λ (s : GrainsState). total_of s.disks) c.self.view_is,
      total-pool (all_disks c.self.inside.volumes.items c.self.inside.pool (map g.D.Mdisk.meaning c.self.inside.aside.items)),
      number_of c.self.inside.volumes.items c.self.inside.pool (map g.D.Mdisk.meaning c.self.inside.aside.items),
      c.self.inside.volumes.ok.0,
    )

pub give_disks-requires : goal.give_disks-requires
give_disks-requires g c =
    omega (
      arith,
      c.requires,
      ap (λ (s : GrainsState). total_of s.disks) c.self.view_is,
      total-pool (all_disks c.self.inside.volumes.items c.self.inside.pool (map g.D.Mdisk.meaning c.self.inside.aside.items)),
      number_of c.self.inside.volumes.items c.self.inside.pool (map g.D.Mdisk.meaning c.self.inside.aside.items),
      length-map c.self.inside.aside.items g.D.Mdisk.meaning,
      c.give_volumes.ensures.room,
      c.give_volumes.new.into.ok.0,
      ap length c.give_volumes.ensures.given.1,
      length-append c.args.into.now.items c.give_volumes.ensures.given.0,
      c.args.into.now.ok.0,
      ap (length {A = DiskState}) c.give_volumes.ensures.given.2,
      length-reverse (map (λ (v : VolumeDiskState). v.disk) c.self.inside.volumes.items),
      length-map c.give_volumes.ensures.given.0 g.D.Mdisk.meaning,
      length-map c.self.inside.volumes.items (λ (v : VolumeDiskState). v.disk),
      ap (λ (q : QueuesState). length (disks_in q)) c.into_queues.ensures,
    )

pub unreachable-requires : goal.unreachable-requires
unreachable-requires g c =
    let full = on_err_at c.append.result (sym c.is_err.ensures.value ∙ c.if-is_err.true) c.append.ensures.full in
    omega (
      arith,
      full,
      c.requires,
      ap (λ (s : GrainsState). total_of s.disks) c.self.view_is,
      total-pool (all_disks c.self.inside.volumes.items c.self.inside.pool (map g.D.Mdisk.meaning c.self.inside.aside.items)),
      number_of c.self.inside.volumes.items c.self.inside.pool (map g.D.Mdisk.meaning c.self.inside.aside.items),
      length-map c.self.inside.aside.items g.D.Mdisk.meaning,
      c.give_volumes.ensures.room,
      c.give_volumes.new.into.ok.0,
      ap length c.give_volumes.ensures.given.1,
      length-append c.args.into.now.items c.give_volumes.ensures.given.0,
      c.args.into.now.ok.0,
      ap (length {A = DiskState}) c.give_volumes.ensures.given.2,
      length-reverse (map (λ (v : VolumeDiskState). v.disk) c.self.inside.volumes.items),
      length-map c.give_volumes.ensures.given.0 g.D.Mdisk.meaning,
      length-map c.self.inside.volumes.items (λ (v : VolumeDiskState). v.disk),
      ap (λ (q : QueuesState). length (disks_in q)) c.into_queues.ensures,
      c.give_disks.ensures.room,
      c.give_disks.new.into.ok.0,
      ap length c.give_disks.ensures.given.1,
      length-append c.give_volumes.new.into.items c.give_disks.ensures.given.0,
      ap (length {A = DiskState}) c.give_disks.ensures.given.2,
      length-map c.give_disks.ensures.given.0 g.D.Mdisk.meaning,
      c.self.inside.aside.ok.0,
    )

pub returns-clause-given : goal.returns-clause-given
returns-clause-given g c =
    let m = g.D.Mdisk.meaning in
    let first : List g.row.D.Denot = c.give_volumes.ensures.given.0 in
    let second : List g.row.D.Denot = c.give_disks.ensures.given.0 in
    let last : List g.row.D.Denot = c.self.inside.aside.items in
    let items : c.append.new.self.items ≡ c.args.into.now.items ++ (first ++ (second ++ last)) =
    joined c.append.result c.give_disks.new.into.items c.append.new.self.items last c.append.ensures.items (sym c.is_err.ensures.value ∙ c.if-is_err.false)
    ∙ ap (λ (xs : List g.row.D.Denot). xs ++ last) (c.give_disks.ensures.given.1 ∙ ap (λ (xs : List g.row.D.Denot). xs ++ second) c.give_volumes.ensures.given.1)
    ∙ append_assoc (c.args.into.now.items ++ first) second last
    ∙ append_assoc c.args.into.now.items first (second ++ last) in
    let pooled : map m second ≡ disks_in c.self.inside.pool.queues = c.give_disks.ensures.given.2 ∙ ap disks_in c.into_queues.ensures in
    let split : map m (first ++ (second ++ last)) ≡ map m first ++ (disks_in c.self.inside.pool.queues ++ map m last) =
    map-append m first (second ++ last)
    ∙ ap (λ (ds : List DiskState). map m first ++ ds) (map-append m second last ∙ ap (λ (ds : List DiskState). ds ++ map m last) pooled) in
    let own : List DiskState = reverse (map (λ (v : VolumeDiskState). v.disk) c.self.inside.volumes.items) in
    let all : List DiskState = all_disks c.self.inside.volumes.items c.self.inside.pool (map m last) in
    let order : map m (first ++ (second ++ last)) ≡ own ++ (disks_in c.self.inside.pool.queues ++ map m last) =
    split ∙ ap (λ (ds : List DiskState). ds ++ (disks_in c.self.inside.pool.queues ++ map m last)) c.give_volumes.ensures.given.2 in
    let P : List DiskState → Type 0 = λ ds. SameDisks ds all in
    let same : SameDisks (map m (first ++ (second ++ last))) all =
    subst P (sym order) (same_given c.self.inside.volumes.items c.self.inside.pool (map m last)) in
    let state : GrainsState = state_of c.self.inside.grain c.self.inside.volumes.items c.self.inside.pool (map m last) c.self.inside.buffer.items c.self.inside.sums in
    let Q : GrainsState → Type 0 = λ s. AreAllOf s (map m (first ++ (second ++ last))) in (
      first ++ (second ++ last),
      items,
      subst Q c.self.view_is
          (all_of state all (map m (first ++ (second ++ last))) own c.self.inside.sums same refl refl refl refl refl c.self.invariant.add_up order
          (hold_back (grain_bytes c.self.inside.grain) c.self.inside.volumes.items c.self.invariant.whole)
          (whole_back c.self.inside.grain c.self.inside.volumes.items c.self.invariant.whole) c.self.invariant.empty),
    )
