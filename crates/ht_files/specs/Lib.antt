pub mod HeadedFormats
pub mod Frames
pub mod Files
pub mod Places
pub mod Points
pub mod SymbolFiles
