-- The table's words with their numbers, and what is found of a word by its key.
use Rattle.std.specs.Prelude.{◌≡◌, Bool, ◌&&◌, ℕ, ◌+◌, ◌-◌, ◌*◌, eqb, ltb, length, get_or, take, None, Option, Some}
use Rattle.std.proofs.Math.Path.{refl}
use Rattle.std.proofs.Common.{sym, ap, ◌∙◌, arith, eqb-true, ne_eqb, ltb-true}
use Rattle.std.proofs.Math.Bool.{true, false, cond}
use Rattle.std.proofs.lemmas.Bool.{false≢true, eqb-false}
use mathlib.Core.List.{List, [], ◌∷◌, ◌++◌}
use Prim.Native.String.{String}
use Rattle.model.specs.Bytes.{ascii, same, keep, push}
use Rattle.orders.specs.Keys.{same-is}
use Rattle.program_section.specs.Same.{same-take, and_left, and_right}

pub record Entry : Type 0 where
  pub word : List ℕ
  pub number : ℕ

abbrev entry : String → ℕ → Entry
entry w n = record { word = ascii w; number = n }

-- first pieces that read no second
unfoldable pub answering : List Entry
answering =
    entry "tp" 0x0400
    ∷ entry "lsm" 0x1200
    ∷ entry "iter" 0x1D00
    ∷ entry "lsm.s" 0x1210
    ∷ entry "fexit" 0x1600
    ∷ entry "kprobe" 0x0100
    ∷ entry "uprobe" 0x0200
    ∷ entry "tp_btf" 0x1400
    ∷ entry "socket" 0x0500
    ∷ entry "sk_msg" 0x0700
    ∷ entry "raw_tp" 0x1100
    ∷ entry "fentry" 0x1500
    ∷ entry "iter.s" 0x1D10
    ∷ entry "sockops" 0x0900
    ∷ entry "fexit.s" 0x1610
    ∷ entry "uprobe.s" 0x0210
    ∷ entry "fentry.s" 0x1510
    ∷ entry "freplace" 0x1800
    ∷ entry "kretprobe" 0x0000
    ∷ entry "uretprobe" 0x0300
    ∷ entry "sk_lookup" 0x1900
    ∷ entry "tracepoint" 0x0400
    ∷ entry "classifier" 0x0A00
    ∷ entry "lirc_mode2" 0x0F00
    ∷ entry "perf_event" 0x1000
    ∷ entry "lsm_cgroup" 0x1300
    ∷ entry "uretprobe.s" 0x0310
    ∷ entry "uprobe.multi" 0x0201
    ∷ entry "uprobe.multi.s" 0x0211
    ∷ entry "raw_tracepoint" 0x1100
    ∷ entry "flow_dissector" 0x1700
    ∷ entry "uretprobe.multi" 0x0301
    ∷ entry "uretprobe.multi.s" 0x0311
    ∷ []

-- first pieces that read a second
unfoldable pub reading : List Entry
reading =
    entry "xdp" 0x10600
    ∷ entry "sk_skb" 0x30800
    ∷ entry "cgroup" 0x50000
    ∷ entry "xdp.frags" 0x10610
    ∷ entry "cgroup_skb" 0x40B00
    ∷ entry "sk_reuseport" 0x21A00
    ∷ []

-- second pieces
unfoldable pub second : List Entry
second =
    entry "cpumap" 0x110001
    ∷ entry "devmap" 0x110002
    ∷ entry "migrate" 0x120010
    ∷ entry "stream_parser" 0x130000
    ∷ entry "stream_verdict" 0x130010
    ∷ entry "ingress" 0x140010
    ∷ entry "egress" 0x140020
    ∷ entry "skb" 0x150B00
    ∷ entry "sysctl" 0x150D00
    ∷ entry "dev" 0x151C00
    ∷ entry "getsockopt" 0x150E00
    ∷ entry "setsockopt" 0x150E10
    ∷ entry "sock" 0x151B20
    ∷ entry "post_bind4" 0x151B00
    ∷ entry "post_bind6" 0x151B10
    ∷ entry "sock_create" 0x151B20
    ∷ entry "sock_release" 0x151B30
    ∷ entry "bind4" 0x150C00
    ∷ entry "bind6" 0x150C10
    ∷ entry "connect4" 0x150C20
    ∷ entry "connect6" 0x150C30
    ∷ entry "getpeername4" 0x150C40
    ∷ entry "getpeername6" 0x150C50
    ∷ entry "getsockname4" 0x150C60
    ∷ entry "getsockname6" 0x150C70
    ∷ entry "sendmsg4" 0x150C80
    ∷ entry "sendmsg6" 0x150C90
    ∷ entry "recvmsg4" 0x150CA0
    ∷ entry "recvmsg6" 0x150CB0
    ∷ []

unfoldable pub word_table : List Entry
word_table = answering ++ (reading ++ second)

-- the number of a word, where the table has it
unfoldable pub word_number : List Entry → List ℕ → Option ℕ
word_number [] p = None
word_number (e ∷ es) p = cond (same e.word p) (Some e.number) (word_number es p)

-- a word by its count of letters, its first and its last
abbrev pub word_key : List ℕ → ℕ
word_key p = length p * 0x10000 + get_or p 0 0 * 0x100 + get_or p (length p - 1) 0

abbrev has_key : ℕ → Entry → Bool
has_key k e = eqb (word_key e.word) k

-- only words of its key can be the same
module _ (p : List ℕ) where
  other_key : (w : List ℕ) (b : Bool) → same w p ≡ b → eqb (word_key w) (word_key p) ≡ false → b ≡ false
  other_key w true e h = absurd (eqb-false (word_key w) (word_key p) h (ap word_key (same-is w p e)))
  other_key w false e h = refl

  keep-by : (b : Bool) (e : Entry) (xs es : List Entry) → eqb (word_key e.word) (word_key p) ≡ b → word_number xs p ≡ word_number es p
      → word_number (push b e xs) p ≡ cond (same e.word p) (Some e.number) (word_number es p)
  unfolding word_number
  keep-by true e xs es h k = rw k
  keep-by false e xs es h k = rw (other_key e.word (same e.word p) refl h) k

  keep-key : (es : List Entry) → word_number (keep (has_key (word_key p)) es) p ≡ word_number es p
  unfolding word_number keep
  keep-key [] = refl
  keep-key (e ∷ es) = keep-by (has_key (word_key p) e) e (keep (has_key (word_key p)) es) es refl (keep-key es)

  pub by_key : (k : ℕ) → word_key p ≡ k → word_number word_table p ≡ word_number (keep (has_key k) word_table) p
  by_key k e = sym (keep-key word_table) ∙ ap (λ (x : ℕ). word_number (keep (has_key x) word_table) p) e

-- what the last arm of a `match` knows of its number, the arms from the last on
abbrev pub NotAmong : ℕ → List ℕ → Type 0
NotAmong k [] = Prim.Unit {0}
NotAmong k (x ∷ xs) = NotAmong k xs × (k ≡ x → ⊥)

abbrev is_in : ℕ → List ℕ → Bool
is_in x [] = false
is_in x (y ∷ ys) = cond (eqb x y) true (is_in x ys)

none_of : (k x : ℕ) (xs : List ℕ) → NotAmong k xs → is_in x xs ≡ true → eqb x k ≡ false
none_of k x [] h t = absurd (false≢true t)
none_of k x (y ∷ ys) h t = go (eqb x y) refl t (none_of k x ys h.0)
  where
    go : (b : Bool) → eqb x y ≡ b → cond b true (is_in x ys) ≡ true → (is_in x ys ≡ true → eqb x k ≡ false) → eqb x k ≡ false
    go true e t r = ne_eqb x k (λ q. h.1 (sym q ∙ eqb-true x y e))
    go false e t r = r t

-- whether all keys that pass a test are among these
unfoldable pub all_listed : (ℕ → Bool) → List ℕ → List Entry → Bool
all_listed t keys [] = true
all_listed t keys (e ∷ es) = cond (t (word_key e.word)) (is_in (word_key e.word) keys) true && all_listed t keys es

module _ (p : List ℕ) (t : ℕ → Bool) (keys : List ℕ) (k : ℕ) (is : word_key p ≡ k) (passes : t k ≡ true) (none : NotAmong k keys) where
  other : (x : ℕ) (b : Bool) → t x ≡ b → cond b (is_in x keys) true ≡ true → eqb x k ≡ false
  other x true e h = none_of k x keys none h
  other x false e h = ne_eqb x k (λ q. false≢true (sym e ∙ ap t q ∙ passes))

  unlisted-in : (es : List Entry) → all_listed t keys es ≡ true → word_number es p ≡ None
  unfolding word_number all_listed
  unlisted-in [] h = refl
  unlisted-in (e ∷ es) h =
      let x = word_key e.word in
      let a = cond (t x) (is_in x keys) true in
      let b = all_listed t keys es in
      rw (other_key p e.word (same e.word p) refl (rw is (other x (t x) refl (and_left a b h))), unlisted-in es (and_right a b h))

  -- a key that no word has
  pub unlisted : all_listed t keys word_table ≡ true → word_number word_table p ≡ None
  unlisted h = unlisted-in word_table h

pub empty-word : (p : List ℕ) → length p ≡ 0 → word_number word_table p ≡ None
unfolding word_number word_table answering reading second same
empty-word [] e = refl
empty-word (x ∷ p) e = let z : ⊥ = omega arith in absurd z

-- 18 letters decide
unfoldable all_short : List Entry → Bool
all_short [] = true
all_short (e ∷ es) = ltb (length e.word) 18 && all_short es

number_short : (p : List ℕ) (es : List Entry) → all_short es ≡ true → word_number es (take 18 p) ≡ word_number es p
unfolding word_number all_short
number_short p [] t = refl
number_short p (e ∷ es) t =
    let a = ltb (length e.word) 18 in
    rw (same-take e.word p 18 (ltb-true _ _ (and_left a (all_short es) t)), number_short p es (and_right a (all_short es) t))

pub short-word : (p : List ℕ) → word_number word_table (take 18 p) ≡ word_number word_table p
unfolding word_table answering reading second all_short
short-word p = number_short p word_table refl
