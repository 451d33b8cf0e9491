-- What `clap` fails by, and what its getter says of flags.
use Rattle.std.proofs.Common.{◌≡◌, ◌⊎◌, ◌∙◌, Bool, List, Option, Some, None, inl, inr, refl, sym, ap, subst, codes, true, false}
use Rattle.clap.specs.Kinds.{Kinds}
use Rattle.clap.specs.Words.{App, IsAmong, Text, fault_of, kind_of}
use Rattle.clap.specs.declared.error.ErrorKind.{ErrorKind}
use Rattle.clap.specs.declared.error.ErrorKind.TheVariants.{DisplayHelp, DisplayVersion, OutOfMemory}
use Rattle.cli_args.specs.declared.fault.ArgsFault.{ArgsFault}
use Rattle.cli_args.specs.declared.fault.ArgsFault.TheVariants.{Shows, Usage, NoMemory}
use Rattle.cli_args.specs.Fault.{IsFaultBy, IsQuestion, IsRefusal}
use Rattle.cli_args.specs.Words.{HasFlag}

-- a kind other than out of memory is one of the kinds
among : (k : ErrorKind) (ks : Kinds) → (k ≡ OutOfMemory → ⊥) → (k ≡ OutOfMemory) ⊎ IsAmong k ks → IsAmong k ks
among k ks other (inl h) = absurd (other h)
among k ks other (inr h) = h

pub asked_kind : (k m : ErrorKind) → k ≡ m → IsQuestion k → IsQuestion m
asked_kind k m e (inl h) = inl (sym e ∙ h)
asked_kind k m e (inr h) = inr (sym e ∙ h)

pub asked_memory : (k : ErrorKind) → IsQuestion k → k ≡ OutOfMemory → ⊥
asked_memory k (inl h) e = let bad : DisplayHelp ≡ OutOfMemory = sym h ∙ e in cc bad
asked_memory k (inr h) e = let bad : DisplayVersion ≡ OutOfMemory = sym h ∙ e in cc bad

pub no_question : (k m : ErrorKind) → k ≡ m → (k ≡ DisplayHelp → ⊥) → (k ≡ DisplayVersion → ⊥) → IsQuestion m → ⊥
no_question k m e help version (inl h) = help (e ∙ h)
no_question k m e help version (inr h) = version (e ∙ h)

-- by its kind
pub refusal_for : (kind : ErrorKind) (fault : ArgsFault) (app : App) (line : List Text) → (kind ≡ OutOfMemory) ⊎ IsAmong kind (fault_of app line)
    → IsFaultBy kind fault → IsRefusal app line fault
refusal_for kind (Shows error) app line h (question, same) =
    let P : ErrorKind → Type 0 = λ k. IsAmong k (fault_of app line) in
    (asked_kind kind (kind_of error) same question, subst P same (among kind (fault_of app line) (asked_memory kind question) h))
refusal_for kind Usage app line h (memory, question) =
    record { kind = kind; found = among kind (fault_of app line) memory h; mistake = question }
refusal_for kind NoMemory app line h by = tt

-- what a typed getter says of a flag
pub has_flag : (o : Option Text) (b : Bool) → (o ≡ None → b ≡ false) → (o ≡ Some (codes "true") → b ≡ true) → (o ≡ Some (codes "false") → b ≡ false)
    → HasFlag o b
has_flag None b none on off = none refl
has_flag (Some t) b none on off = (λ e. on (ap Some e), λ e. off (ap Some e))
