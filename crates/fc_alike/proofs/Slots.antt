-- What stays of a sheet whose slots stay but for what they hold.
use Rattle.fc_base.specs.Sheet.{Sheet}
use Rattle.fc_pictures.proofs.Slots.{SheetStays, live_stay, mapping_stay, birth_stay, grains_stay}
use Rattle.fc_alike.specs.Law.{SlotsStay}

pub slots_stay : (old new : Sheet) → SheetStays old new → SlotsStay old new
slots_stay old new stays =
    let s = stays.slots in
    record {
      births = stays.births;
      count = s.count;
      birth = s.birth;
      chain = s.chain;
      volume = s.volume;
      is_live = s.is_live;
      mapping = s.mapping;
      size = s.size;
      of_birth = birth_stay old.slots new.slots s;
      of_mapping = mapping_stay old.slots new.slots s;
      of_volume = live_stay old.slots new.slots s;
      grains = grains_stay old.slots new.slots s;
    }
