pub mod Token
pub mod Lexer
pub mod Laws
pub mod First
