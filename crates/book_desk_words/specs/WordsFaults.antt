-- What is told where the words are no command, and the status that ends the program (own profile).
use Rattle.std.specs.Prelude.{◌≡◌, ℕ, List, ◌++◌, codes, string_bytes}
use Rattle.book_desk_words.specs.declared.commands.WordsFault.{WordsFault}
use Rattle.book_desk_words.specs.declared.commands.WordsFault.TheVariants.{Usage, Memory}

abbrev pub words_text : WordsFault → List ℕ
words_text (Usage text) = string_bytes text
words_text Memory = codes "words: memory\n"

-- 2 is usage; 3 is memory
abbrev pub words_status : WordsFault → ℕ
words_status (Usage text) = 2
words_status Memory = 3

-- what is wrong, in the form of clap's errors
abbrev pub usage_text : List ℕ → List ℕ
usage_text wrong = codes "error: " ++ wrong ++ codes "\n\nUsage: book_desk <COMMAND>\n\nFor more information, try '--help'.\n"

abbrev pub not_text : List ℕ
not_text = codes "invalid UTF-8 was detected in one or more arguments"

abbrev pub not_time : List ℕ
not_time = codes "denials wants '--since <TIME>' as 2026-11-29T00:45:58.123Z"

-- what the options of serve, of load and of commands over a store want of each other, and the words of why and backup
abbrev pub serve_wants : List ℕ
serve_wants = codes "serve wants '--port <N>' or '--socket <PATH>', with '--mode <OCTAL>', of three or four digits, also '--socket <PATH>', one of '--connections <N>' and '--forever', with '--idle <N>' or '--control <PATH>' also '--at-once <N>', and with '--existing' also '--store <FILE>'; import, differs, audit, why, who, rights, ask, dump and show want one of '--store <FILE>' and '--control <PATH>', and check one at most; why wants DESTINATION with COPY and MOVE; backup wants one of '--to <NEW>' and '--check <COPY>'; load wants with '--at <BOOK>' also '--owner <FROM=TO>', with '--heir <PRINCIPAL>' also '--without <PERSON>', and with '--above <N>' also '--new-epoch'"

-- the words are refused with this, but for want of memory
abbrev pub IsUsage : List ℕ → WordsFault → Type 0
IsUsage wrong (Usage text) = string_bytes text ≡ usage_text wrong
IsUsage wrong Memory = Unit {0}
