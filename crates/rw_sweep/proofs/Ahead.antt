-- Rows that are read piece by piece: what was read so far, with a piece more.
use Rattle.std.proofs.Common.{◌≡◌, ℕ, List, [], ◌∷◌, ◌++◌, Some, None, Ok, refl, sym, ◌∙◌, ap}
use Rattle.rw_trace.specs.declared.Row.{Row}
use Rattle.rw_trace.specs.Pieces.{Ahead, AreAll, ComeFirst, RiseFrom, last_time, rows_before}
use Rattle.rw_trace.specs.Trace.{row_before}
use Rattle.rw_trace.specs.Words.{OrFault}

before-both : (ps qs : List Row) (rest : OrFault (List Row)) → rows_before (ps ++ qs) rest ≡ rows_before ps (rows_before qs rest)
before-both [] qs rest = refl
before-both (p ∷ ps) qs rest = ap (row_before p) (before-both ps qs rest)

before-ok : (ps qs : List Row) → rows_before ps (Ok qs) ≡ Ok (ps ++ qs)
before-ok [] qs = refl
before-ok (p ∷ ps) qs = ap (row_before p) (before-ok ps qs)

-- nothing has come yet
pub come-none : (a : Ahead) → ComeFirst a [] a
come-none None = tt
come-none (Some all) = refl

pub come-more : (a b c : Ahead) (ps qs : List Row) → ComeFirst a ps b → ComeFirst b qs c → ComeFirst a (ps ++ qs) c
come-more None b c ps qs h k = tt
come-more (Some all) None c ps qs h k = absurd h
come-more (Some all) (Some rest) None ps qs h k = absurd k
come-more (Some all) (Some rest) (Some last) ps qs h k = h ∙ ap (rows_before ps) k ∙ sym (before-both ps qs last)

pub come-all : (a b : Ahead) (ps qs : List Row) → ComeFirst a ps b → AreAll b qs → AreAll a (ps ++ qs)
come-all None b ps qs h k = tt
come-all (Some all) None ps qs h k = absurd h
come-all (Some all) (Some rest) ps qs h k = h ∙ ap (rows_before ps) k ∙ before-ok ps qs

-- what comes first of some rows that come first
pub come-part : (a c : Ahead) (ps qs : List Row) → ComeFirst a (ps ++ qs) c → (b : Ahead) × ComeFirst a ps b
come-part None c ps qs h = (None, tt)
come-part (Some all) None ps qs h = absurd h
come-part (Some all) (Some rest) ps qs h = (Some (rows_before qs rest), h ∙ before-both ps qs rest)

-- what comes first of all rows
pub come-of-all : (a : Ahead) (ps qs : List Row) → AreAll a (ps ++ qs) → (b : Ahead) × ComeFirst a ps b
come-of-all None ps qs h = (None, tt)
come-of-all (Some all) ps qs h = (Some (Ok qs), h ∙ sym (before-ok ps qs))

pub rise-first : (t : ℕ) (ps qs : List Row) → RiseFrom t (ps ++ qs) → RiseFrom t ps
rise-first t [] qs h = tt
rise-first t (p ∷ ps) qs h = (h.0, rise-first p.time ps qs h.1)

pub rise-behind : (t : ℕ) (ps qs : List Row) → RiseFrom t (ps ++ qs) → RiseFrom (last_time t ps) qs
rise-behind t [] qs h = h
rise-behind t (p ∷ ps) qs h = rise-behind p.time ps qs h.1

pub rise-more : (t : ℕ) (ps qs : List Row) → RiseFrom t ps → RiseFrom (last_time t ps) qs → RiseFrom t (ps ++ qs)
rise-more t [] qs h k = k
rise-more t (p ∷ ps) qs h k = (h.0, rise-more p.time ps qs h.1 k)

pub last-more : (t : ℕ) (ps qs : List Row) → last_time t (ps ++ qs) ≡ last_time (last_time t ps) qs
last-more t [] qs = refl
last-more t (p ∷ ps) qs = last-more p.time ps qs
