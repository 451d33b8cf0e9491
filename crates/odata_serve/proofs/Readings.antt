-- Readings of a command line that ask for nothing, and what `clap` says of the program's command.
use Rattle.std.proofs.Common.{◌≡◌, ◌⊎◌, ℕ, List, inl, inr, [], codes, subst, ◌∙◌, sym, refl, ap, arith, Some, true, slice_index}
use Rattle.clap.specs.Words.{App, IsAmong, Row, Text, fault_of, is_simple, is_simple_and_free, one_of, subcommand_of}
use Rattle.clap.specs.Kinds.{Kinds}
use Rattle.clap.specs.declared.error.ErrorKind.{ErrorKind}
use Rattle.clap.specs.declared.error.ErrorKind.TheVariants.{OutOfMemory}
use Rattle.clap.proofs.OnLiterals.{clap_on_literals}
use Rattle.cli_args.specs.Words.{IsNumberOfBits}
use Rattle.odata_serve.specs.Words.{SaysNothing, program_app}
use Rattle.odata_serve.specs.declared.words.Words.TheVariants.{Nothing, Check, Query, Answer, Replay, Serve}

-- a kind other than out of memory is one of the kinds, so there are some
pub some_kind : {k m : ErrorKind} {ks : Kinds} → k ≡ m → (k ≡ OutOfMemory → ⊥) → (m ≡ OutOfMemory) ⊎ IsAmong m ks → ks ≡ [] → ⊥
some_kind e n (inl h) none = n (e ∙ h)
some_kind {k} {m} e n (inr h) none = let P : Kinds → Type 0 = λ x. IsAmong m x in subst P none h

is_free : is_simple_and_free program_app ≡ true
unfolding clap_on_literals
is_free = refl

is_plain : is_simple program_app ≡ true
unfolding clap_on_literals
is_plain = refl

pub fault_at : (a : App) (line : List Text) → a ≡ program_app → fault_of a line ≡ fault_of program_app line
fault_at a line e = ap (λ (x : App). fault_of x line) e

pub reading_at : (a : App) (line : List Text) → a ≡ program_app → subcommand_of a line ≡ subcommand_of program_app line
reading_at a line e = ap (λ (x : App). subcommand_of x line) e

pub free_at : (a : App) → a ≡ program_app → is_simple_and_free a ≡ true
free_at a e = ap is_simple_and_free e ∙ is_free

pub simple_at : (a : App) → a ≡ program_app → is_simple a ≡ true
simple_at a e = ap is_simple e ∙ is_plain

first_byte : {s t : Text} → s ≡ t → slice_index s 0 ≡ slice_index t 0
first_byte e = ap (λ (t : Text). slice_index t 0) e

-- `serve` without a number of connections asks for nothing
pub no_connections : (name : Text) (rows : List Row) → name ≡ codes "serve"
    → ((n : ℕ) → IsNumberOfBits 32 (one_of (codes "connections") rows) n → ⊥) → SaysNothing (Some (name, rows))
no_connections name rows e none Nothing h = h
no_connections name rows e none (Check folder) h =
    let bad : 115 ≡ 99 = first_byte (sym e ∙ h.0) in absurd (omega (arith, bad))
no_connections name rows e none (Query folder target) h =
    let bad : 115 ≡ 113 = first_byte (sym e ∙ h.0) in absurd (omega (arith, bad))
no_connections name rows e none (Answer folder file) h =
    let bad : 115 ≡ 97 = first_byte (sym e ∙ h.0) in absurd (omega (arith, bad))
no_connections name rows e none (Replay folder script) h =
    let bad : 115 ≡ 114 = first_byte (sym e ∙ h.0) in absurd (omega (arith, bad))
no_connections name rows e none (Serve folder port connections) h = none connections h.3
