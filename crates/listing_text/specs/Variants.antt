-- The variants' names as one run of bytes, and where each begins in it.
use Rattle.std.specs.Prelude.{◌≡◌, refl, Bool, true, false, cond, ◌&&◌, List, [], ◌∷◌, ℕ, suc, ◌+◌, ◌-◌, ◌<◌, ◌≤◌, ltb, leb, length, get_or, replicate}
use Rattle.std.proofs.Common.{sym, ap, ◌∙◌, arith, ltb-true, ltb-false, leb-true}
use Rattle.std.proofs.lemmas.List.{get_or-replicate}
use Rattle.std.proofs.Math.ListN.{get_or-eq_default}
use Rattle.lists.specs.Tab.{tab, get_or-tab}
use Rattle.lists.specs.Tests.{both_true}
use Rattle.model.specs.Bytes.{ascii, part}
use Rattle.model.specs.Listing.{variant_name}
use Rattle.model.specs.ReadBack.{program_from}

-- a number past the last is read as the first
unfoldable pub variant_row : ℕ → ℕ
variant_row n = cond (ltb n 30) n 0

abbrev pub letters : List ℕ
letters = ascii "KRetProbeKProbeUProbeURetProbeTracePointSocketFilterXdpSkMsgSkSkbStreamSockOpsSchedClassifierCgroupSkbCgroupSockAddrCgroupSysctlCgroupSockoptLircMode2PerfEventRawTracePointLsmLsmCgroupBtfTracePointFEntryFExitFlowDissectorExtensionSkLookupSkReuseportCgroupSockCgroupDeviceIter"

abbrev pub starts : List ℕ
starts = 0 ∷ 9 ∷ 15 ∷ 21 ∷ 30 ∷ 40 ∷ 52 ∷ 55 ∷ 60 ∷ 71 ∷ 78 ∷ 93 ∷ 102 ∷ 116 ∷ 128 ∷ 141 ∷ 150 ∷ 159 ∷ 172 ∷ 175 ∷ 184 ∷ 197 ∷ 203 ∷ 208 ∷ 221 ∷ 230 ∷ 238 ∷ 249 ∷ 259 ∷ 271 ∷ 275 ∷ []

abbrev names : List (List ℕ)
names =
    ascii "KRetProbe"
    ∷ ascii "KProbe"
    ∷ ascii "UProbe"
    ∷ ascii "URetProbe"
    ∷ ascii "TracePoint"
    ∷ ascii "SocketFilter"
    ∷ ascii "Xdp"
    ∷ ascii "SkMsg"
    ∷ ascii "SkSkbStream"
    ∷ ascii "SockOps"
    ∷ ascii "SchedClassifier"
    ∷ ascii "CgroupSkb"
    ∷ ascii "CgroupSockAddr"
    ∷ ascii "CgroupSysctl"
    ∷ ascii "CgroupSockopt"
    ∷ ascii "LircMode2"
    ∷ ascii "PerfEvent"
    ∷ ascii "RawTracePoint"
    ∷ ascii "Lsm"
    ∷ ascii "LsmCgroup"
    ∷ ascii "BtfTracePoint"
    ∷ ascii "FEntry"
    ∷ ascii "FExit"
    ∷ ascii "FlowDissector"
    ∷ ascii "Extension"
    ∷ ascii "SkLookup"
    ∷ ascii "SkReuseport"
    ∷ ascii "CgroupSock"
    ∷ ascii "CgroupDevice"
    ∷ ascii "Iter"
    ∷ []

abbrev first : List ℕ
first = ascii "KRetProbe"

abbrev pub variant_name_at : ℕ → List ℕ
variant_name_at i = part letters (get_or starts i 0) (get_or starts (i + 1) 0 - get_or starts i 0)

names-are : tab variant_name_at 30 ≡ names
unfolding tab
names-are = refl

abbrev ordered : ℕ → Bool
ordered i = leb (get_or starts i 0) (get_or starts (i + 1) 0) && leb (get_or starts (i + 1) 0) 275

all-ordered : tab ordered 30 ≡ replicate 30 true
unfolding tab
all-ordered = refl

pub row_small : (n : ℕ) → variant_row n < 30
unfolding variant_row
row_small n = go (ltb n 30) refl
  where
    go : (b : Bool) → ltb n 30 ≡ b → cond b n 0 < 30
    go true e = ltb-true _ _ e
    go false e = omega arith

module _ (i : ℕ) (h : i < 30) where
  in_order : ordered i ≡ true
  in_order = sym (get_or-tab ordered 30 i true h) ∙ ap (λ (l : List Bool). get_or l i true) all-ordered ∙ get_or-replicate 30 i true true h

  pub start-before : get_or starts i 0 ≤ get_or starts (i + 1) 0
  start-before = leb-true _ _ (both_true (leb (get_or starts i 0) (get_or starts (i + 1) 0)) (leb (get_or starts (i + 1) 0) 275) in_order).0

  pub end-inside : get_or starts (i + 1) 0 ≤ 275
  end-inside = leb-true _ _ (both_true (leb (get_or starts i 0) (get_or starts (i + 1) 0)) (leb (get_or starts (i + 1) 0) 275) in_order).1

  name-is : variant_name_at i ≡ get_or names i first
  name-is = sym (get_or-tab variant_name_at 30 i first h) ∙ ap (λ (l : List (List ℕ)). get_or l i first) names-are

-- the name that a number stands for, whatever the values beside it
all_named : (a b : ℕ) → tab (λ n. variant_name (program_from n a b)) 30 ≡ names
unfolding tab program_from variant_name
all_named a b = refl

abbrev five : ℕ → ℕ
five n = suc (suc (suc (suc (suc n))))

past-named : (n a b : ℕ) → variant_name (program_from (five (five (five (five (five (five n)))))) a b) ≡ first
unfolding program_from variant_name
past-named n a b = refl

named : (n a b : ℕ) → variant_name (program_from n a b) ≡ get_or names n first
named n a b = go (ltb n 30) refl
  where
    go : (t : Bool) → ltb n 30 ≡ t → variant_name (program_from n a b) ≡ get_or names n first
    go true e =
        sym (get_or-tab (λ k. variant_name (program_from k a b)) 30 n first (ltb-true _ _ e)) ∙ ap (λ (l : List (List ℕ)). get_or l n first) (all_named a b)
    go false e =
        let h : 30 ≤ n = ltb-false _ _ e in
        let m : n ≡ five (five (five (five (five (five (n - 30)))))) = omega arith in
        ap (λ (k : ℕ). variant_name (program_from k a b)) m ∙ past-named (n - 30) a b ∙ sym (get_or-eq_default names first h)

pub name-alone : (n a b : ℕ) → variant_name (program_from n a b) ≡ variant_name (program_from n 0 0)
name-alone n a b = named n a b ∙ sym (named n 0 0)

pub name-found : (n : ℕ) → variant_name_at (variant_row n) ≡ variant_name (program_from n 0 0)
unfolding variant_row
name-found n = go (ltb n 30) refl ∙ sym (named n 0 0)
  where
    go : (b : Bool) → ltb n 30 ≡ b → variant_name_at (cond b n 0) ≡ get_or names n first
    go true e = name-is n (ltb-true _ _ e)
    go false e = let h : 30 ≤ n = ltb-false _ _ e in sym (get_or-eq_default names first h)

-- no name has more than 15 bytes
all_short : tab (λ i. leb (length (get_or names i first)) 15) 30 ≡ replicate 30 true
unfolding tab
all_short = refl

pub name-short : (n a b : ℕ) → length (variant_name (program_from n a b)) ≤ 15
name-short n a b = rw (named n a b) (go (ltb n 30) refl)
  where
    go : (t : Bool) → ltb n 30 ≡ t → length (get_or names n first) ≤ 15
    go true e =
        let h : n < 30 = ltb-true _ _ e in
        leb-true _ _ (sym (get_or-tab (λ i. leb (length (get_or names i first)) 15) 30 n true h) ∙ ap (λ (l : List Bool). get_or l n true) all_short ∙ get_or-replicate 30 n true true h)
    go false e = let h : 30 ≤ n = ltb-false _ _ e in rw (get_or-eq_default names first h) (omega arith)
