-- Which command a draw gives, and the session as its draws go on.
use Rattle.std.proofs.Common.{◌≡◌, ◌≢◌, ℕ, ◌+◌, ◌-◌, ◌<◌, ◌≤◌, Bool, true, false, List, [], ◌∷◌, ◌++◌, suc, zero, refl, sym, ap, ◌∙◌, subst, arith, codes, append_assoc}
use Rattle.std.proofs.lemmas.Bool.{lt-ltb, le-ltb}
use Rattle.std.proofs.lemmas.Grind.{flat_map-append}
use Rattle.std.specs.List.{flat_map}
use Rattle.std.specs.Fmt.{digits}
use Rattle.fc_base.specs.CommandText.{command_text}
use Rattle.fc_gen.specs.Session.{Drawn, draw, draw_by, draw_write, draw_read, draw_start, draw_stop, draw_advance, drawn_of, next_draw, drawn_commands, first_commands, lines_of, session_text, Adds}

-- what is drawn, by the kind and the state behind it
pub draw-at : (state after kind : ℕ) (drawn : Drawn) → after ≡ next_draw state → kind ≡ drawn_of 10 after → draw_by kind after ≡ drawn → draw state ≡ drawn
unfolding draw
draw-at state after kind drawn behind of by =
    let By : ℕ → Type 0 = λ k. draw_by k after ≡ drawn in
    let At : ℕ → Type 0 = λ s. draw_by (drawn_of 10 s) s ≡ drawn in
    subst At behind (subst By of by)

pub draw_by-write : (kind state : ℕ) → kind < 4 → draw_by kind state ≡ draw_write state
draw_by-write kind state low = rw (lt-ltb kind 4 low) refl

pub draw_by-read : (kind state : ℕ) → 4 ≤ kind → kind < 7 → draw_by kind state ≡ draw_read state
draw_by-read kind state high low = rw (le-ltb kind 4 high, lt-ltb kind 7 low) refl

pub draw_by-start : (kind state : ℕ) → kind ≡ 7 → draw_by kind state ≡ draw_start state
draw_by-start kind state is = let By : ℕ → Type 0 = λ k. draw_by k state ≡ draw_start state in subst By (sym is) refl

pub draw_by-stop : (kind state : ℕ) → kind ≡ 8 → draw_by kind state ≡ draw_stop state
draw_by-stop kind state is = let By : ℕ → Type 0 = λ k. draw_by k state ≡ draw_stop state in subst By (sym is) refl

pub draw_by-advance : (kind state : ℕ) → kind ≡ 9 → draw_by kind state ≡ draw_advance state
draw_by-advance kind state is = let By : ℕ → Type 0 = λ k. draw_by k state ≡ draw_advance state in subst By (sym is) refl

-- the line of the next command, and the lines behind it
pub drawn_commands-more : (n state : ℕ) → 0 < n → lines_of (drawn_commands n state) ≡ (command_text (draw state).command ++ codes "\n") ++ lines_of (drawn_commands (n - 1) (draw state).state)
unfolding drawn_commands
drawn_commands-more zero state some = absurd (omega arith)
drawn_commands-more (suc n) state some =
    let Rest : ℕ → Type 0 = λ m. lines_of (drawn_commands (suc n) state) ≡ (command_text (draw state).command ++ codes "\n") ++ lines_of (drawn_commands m (draw state).state) in
    subst Rest (omega arith) refl

-- no command, no line
pub drawn_commands-none : (n state : ℕ) → n ≡ 0 → lines_of (drawn_commands n state) ≡ []
unfolding drawn_commands
drawn_commands-none zero state none = refl
drawn_commands-none (suc n) state none = absurd (omega arith)

-- one more line of a session
pub session-more : (before after text : List ℕ) (n m state behind : ℕ) → before ++ lines_of (drawn_commands n state) ≡ text → 0 < n → m ≡ n - 1 → Adds (draw state) behind before after → after ++ lines_of (drawn_commands m behind) ≡ text
session-more before after text n m state behind so_far some one adds =
    let line : List ℕ = command_text (draw state).command ++ codes "\n" in
    let Rest : ℕ → ℕ → Type 0 = λ k s. lines_of (drawn_commands n state) ≡ line ++ lines_of (drawn_commands k s) in
    let rest : lines_of (drawn_commands n state) ≡ line ++ lines_of (drawn_commands m behind) =
    subst (λ (k : ℕ). Rest k behind) (sym one) (subst (λ (s : ℕ). Rest (n - 1) s) (sym adds.0) (drawn_commands-more n state some)) in
    ap (λ bytes. bytes ++ lines_of (drawn_commands m behind)) adds.1 ∙ (append_assoc before line _ ∙ (ap (λ bytes. before ++ bytes) (sym rest) ∙ so_far))

-- a session begins with the first lines
pub session-begins : (first : List ℕ) (number : ℕ) → first ≡ lines_of first_commands → first ++ lines_of (drawn_commands 5000 number) ≡ session_text number
unfolding session_text
session-begins first number e =
    ap (λ bytes. bytes ++ lines_of (drawn_commands 5000 number)) e ∙ sym (flat_map-append (λ command. command_text command ++ codes "\n") first_commands (drawn_commands 5000 number))

-- the first lines
pub first_lines : lines_of first_commands ≡ codes "mkvdisk -name V0 -size 1\nmkvdisk -name V1 -size 1\nmkvdisk -name V2 -size 1\nmkvdisk -name V3 -size 1\nmkvdisk -name V4 -size 1\nmkvdisk -name V5 -size 1\nmkvdisk -name V6 -size 1\nmkvdisk -name V7 -size 1\nmkfcmap -source V0 -target V1 -incremental\nmkfcmap -source V0 -target V2\nmkfcmap -source V1 -target V3 -copyrate 0\nmkfcmap -source V3 -target V4\nmkfcmap -source V4 -target V5 -copyrate 10\nmkfcmap -source V1 -target V0\nmkfcmap -source V6 -target V7 -incremental\nmkfcmap -source V2 -target V6\n"
unfolding digits
first_lines = refl
