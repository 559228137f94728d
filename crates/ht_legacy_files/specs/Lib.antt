pub mod HeadedFormats
pub mod Formats
pub mod Files
pub mod CaptureItems
pub mod CaptureFormats
pub mod CaptureFiles
