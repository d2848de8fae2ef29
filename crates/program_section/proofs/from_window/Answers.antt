-- `from_window` meets its contract: a law for each way that the numbers of its pieces tell it.
use Rattle.std.proofs.Common.{◌≡◌, ◌∙◌, sym, ap, ℕ, suc, ◌+◌, ◌-◌, le_refl, min, length, take, drop, length-drop, add-one, Some, arith}
use Rattle.std.proofs.Math.Seq.{take_all}
use Rattle.model.specs.ProgramName.{program_of}
use Rattle.program_section.specs.Pieces.{until}
use Rattle.program_section.specs.Found.{Tells}
use Rattle.program_section.specs.Table.{told_by, with_second}
use Rattle.program_section.specs.Words.{word_table, word_number}
use Rattle.program_section.specs.Window.{window-long, window-lacked, window-first, window-none, window-alone, window-followed}
use Rattle.program_section.proofs.from_window.Goals as goal
use Rattle.program_section.proofs.from_window.Goals.{Else-a-gt17, In_ok-n, After-second}

-- where the first piece ends, and its number
first-is : (c : Else-a-gt17) → (let a = c.args in c.piece-a.result ≡ until (take a.m a.v.now))
first-is c = omega (arith, c.piece-a.ensures, c.if-a-gt17.false)

number-is : (c : In_ok-n) → (let a = c.args in Some c.in_ok-n.n ≡ word_number word_table (take c.piece-a.result a.v.now))
number-is c = sym c.in_ok-n.was ∙ c.number.ensures

pub returns-then-a-gt17 : goal.returns-then-a-gt17
returns-then-a-gt17 c = let a = c.args in window-long a.v.now a.m (omega arith) (omega (arith, c.piece-a.ensures, c.if-a-gt17.true))

pub returns-in_err-n : goal.returns-in_err-n
returns-in_err-n c =
    let a = c.args in
    rw c.from_residual.ensures
    (window-lacked a.v.now a.m (omega arith) _ (first-is (goal.at.returns-in_err-n c).Else-a-gt17) (sym c.in_err-n.was ∙ c.number.ensures))

pub returns-then-n-lt65536 : goal.returns-then-n-lt65536
returns-then-n-lt65536 c =
    let a = c.args in
    let at = goal.at.returns-then-n-lt65536 c in
    window-first a.v.now a.m (omega arith) _ (first-is at.Else-a-gt17) _ (number-is at.In_ok-n) c.if-n-lt65536.true

pub returns-then-n-ge393216 : goal.returns-then-n-ge393216
returns-then-n-ge393216 c =
    let a = c.args in
    let at = goal.at.returns-then-n-ge393216 c in
    window-none a.v.now a.m (omega arith) _ (first-is at.Else-a-gt17) _ (number-is at.In_ok-n) c.if-n-lt65536.false c.if-n-ge393216.true

pub returns-then-a-m : goal.returns-then-a-m
returns-then-a-m c =
    let a = c.args in
    let at = goal.at.returns-then-a-m c in
    rw c.alone.ensures
    (window-alone a.v.now a.m (omega arith) _ (first-is at.Else-a-gt17) _ (number-is at.In_ok-n) c.if-n-lt65536.false (omega (arith, c.if-n-ge393216.false))
    (omega (arith, c.if-a-m.true)))

-- the second piece's number, or none, tells the name
with-second : (c : After-second) → (let a = c.args in Tells (told_by (with_second c.in_ok-n.n c.second.result)) (program_of (take a.m a.v.now)))
with-second c =
    let a = c.args in
    let v = a.v.now in
    let f = c.piece-a.result in
    let r = take (length v - (f + 1)) (drop (f + 1) v) in
    let e : r ≡ drop (suc f) v =
    take_all (length v - (f + 1)) (drop (f + 1) v) (rw length-drop (le_refl _)) ∙ ap (λ (k : ℕ). drop k v) (add-one f)
    in
    let g : min (until (take (a.m - (f + 1)) r)) 18 ≡ min (until (take (a.m - suc f) r)) 18 =
    ap (λ (k : ℕ). min (until (take (a.m - k) r)) 18) (add-one f)
    in
    window-followed v a.m (omega arith) _ (omega (arith, c.piece-a.ensures, c.if-a-gt17.false)) _ (sym c.in_ok-n.was ∙ c.number.ensures) c.if-n-lt65536.false
    (omega (arith, c.if-n-ge393216.false)) (omega (arith, c.if-a-m.false)) r e _ _ g c.second.ensures

pub returns-in_err-second : goal.returns-in_err-second
returns-in_err-second c =
    rw c.from_residual-in_err-second.ensures (rw c.in_err-second.was at (with-second (goal.at.returns-in_err-second c).After-second))

pub returns : goal.returns
returns c = rw c.followed.ensures (rw c.in_ok-second.was at (with-second (goal.at.returns c).After-second))
