-- A command that is run: what it leads on to, by its phases.
use Rattle.std.proofs.Common.{◌≡◌, ℕ, ◌+◌, ◌<◌, List, [], sym, subst, arith}
use Rattle.fc_base.specs.declared.command.Command.{Command}
use Rattle.fc_base.specs.declared.request.Effect.{Effect}
use Rattle.fc_base.specs.declared.request.Place.TheVariants.{Every}
use Rattle.fc_base.specs.declared.request.Reply.{Reply}
use Rattle.fc_base.specs.declared.request.Reply.TheVariants.{NoMemory}
use Rattle.fc_base.specs.declared.request.Request.TheVariants.{Command as Asked}
use Rattle.fc_base.specs.declared.size.GrainSize.{GrainSize}
use Rattle.fc_books.specs.Deciding.{settle}
use Rattle.fc_entry.specs.declared.entry.Entry.{Entry}
use Rattle.fc_legal.specs.Steps.{after_settling}
use Rattle.fc_legal.specs.Whole.{Whole}
use Rattle.fc_stands.specs.Apart.{entry_apart}
use Rattle.fc_stands.specs.Leading.{LeadsOn}
use Rattle.fc_stands.specs.Phase.{IsDecided, StandsAt}
use Rattle.fc_stands.specs.Settling.{AreFew, CanSettle, IsSettled, CanDecide, IsDoneAfter}
use Rattle.fc_stands.specs.Store.{StoreView, StandsFor}
use Rattle.fc_stands.proofs.CommandSteps.{decided_leads, settled_leads, unsettled_leads}
use Rattle.fc_stands.proofs.PhaseStands.{stands_at}

-- ---- after the settling

-- What an entry leads on to, whatever was settled with these effects.
abbrev pub LeadsOnSettled : StoreView → StoreView → List Effect → Entry → Type 0
LeadsOnSettled old new effects entry =
    (decisions : ℕ) (w : Whole) → IsSettled decisions old w → effects ≡ (settle w.books).effects → LeadsOn old.control.grain w entry new

-- What was decided is done.
pub leads_decided : (old new : StoreView) (actor : ℕ) (command : Command) (reply : Reply) (effects all : List Effect) → IsDecided command →
    ((decisions : ℕ) (w : Whole) → IsSettled decisions old w → effects ≡ (settle w.books).effects → IsDoneAfter decisions old.control.grain w command reply all new) →
    LeadsOnSettled old new effects (entry_apart 0 actor Every (Asked command) reply all)
leads_decided old new actor command reply effects all decided decides = λ decisions w is same.
    let done : IsDoneAfter decisions old.control.grain w command reply all new = decides decisions w is same in
    decided_leads new old.control.grain decisions actor w command done.loop reply all decided done.told done.replied done.effects_are is.few.0 done.stands

-- No memory was had for it.
pub leads_settled : (old new : StoreView) (actor : ℕ) (command : Command) (effects : List Effect) → IsDecided command →
    ((decisions : ℕ) (w : Whole) → StandsAt decisions old w → StandsAt decisions new w) →
    LeadsOnSettled old new effects (entry_apart 0 actor Every (Asked command) NoMemory effects)
leads_settled old new actor command effects decided stays = λ decisions w is same.
    settled_leads new old.control.grain decisions actor w command effects decided same is.few.0 (stays (decisions + 1) (after_settling old.control.grain w) is.now)

-- ---- before the first phase, and after it

-- The store stands for something, and there is room for an entry more.
abbrev pub HasRoom : StoreView → Type 0
HasRoom s = (w : Whole) × StandsFor s w × (w.entries < 262144)

few_told : (s : StoreView) (w : Whole) (stands : StandsFor s w) → w.entries < 262144 → AreFew stands.decisions w
few_told s w stands room = (stands.few, omega (arith, room))

pub can_settle : (s : StoreView) → HasRoom s → CanSettle s
can_settle s can =
    let w : Whole = can.0 in
    let stands : StandsFor s w = can.1 in
    (stands.decisions, w, few_told s w stands can.2, stands_at s w stands)

-- What was settled, with these effects.
abbrev pub SettledWith : List Effect → StoreView → StoreView → Type 0
SettledWith effects old new =
    (decisions : ℕ) (w : Whole) → AreFew decisions w → StandsAt decisions old w →
    (effects ≡ (settle w.books).effects) × StandsAt (decisions + 1) new (after_settling old.control.grain w)

is_settled : (old new : StoreView) (effects : List Effect) (w : Whole) (stands : StandsFor old w) → AreFew stands.decisions w → new.control.grain ≡ old.control.grain →
    SettledWith effects old new → IsSettled stands.decisions new w
is_settled old new effects w stands few grain settles = record {
  few = few;
  before = stands.stands;
  now = subst (λ (g : GrainSize). StandsAt (stands.decisions + 1) new (after_settling g w)) (sym grain) (settles stands.decisions w few (stands_at old w stands)).1;
}

pub can_decide : (old new : StoreView) (effects : List Effect) → HasRoom old → new.control.grain ≡ old.control.grain → SettledWith effects old new → CanDecide new
can_decide old new effects can grain settles =
    let w : Whole = can.0 in
    let stands : StandsFor old w = can.1 in
    (stands.decisions, w, is_settled old new effects w stands (few_told old w stands can.2) grain settles)

-- ---- the whole command

pub leads_whole : (old mid new : StoreView) (effects : List Effect) (entry : Entry) → mid.control.grain ≡ old.control.grain → SettledWith effects old mid → LeadsOnSettled mid new effects entry →
    (w : Whole) → StandsFor old w → w.entries < 262144 → LeadsOn old.control.grain w entry new
leads_whole old mid new effects entry grain settles leads w stands room =
    let few : AreFew stands.decisions w = few_told old w stands room in
    subst (λ (g : GrainSize). LeadsOn g w entry new) grain
    (leads stands.decisions w (is_settled old mid effects w stands few grain settles) (settles stands.decisions w few (stands_at old w stands)).0)

pub leads_unsettled : (old new : StoreView) (actor : ℕ) (command : Command) (effects : List Effect) → IsDecided command → effects ≡ [] →
    ((decisions : ℕ) (w : Whole) → StandsAt decisions old w → StandsAt decisions new w) →
    (w : Whole) → StandsFor old w → LeadsOn old.control.grain w (entry_apart 0 actor Every (Asked command) NoMemory effects) new
leads_unsettled old new actor command effects decided none stays w stands =
    unsettled_leads new old.control.grain stands.decisions actor w command effects decided none stands.few (stays stands.decisions w (stands_at old w stands))
